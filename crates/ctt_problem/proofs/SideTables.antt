-- The side tables of an instance: what is closed, barred and blocked.
use Rattle.std.proofs.Common.{◌≡◌, ◌<◌, ◌*◌, ◌+◌, ◌∙◌, ℕ, Bool, true, false, ◌&&◌, ◌||◌, length, get_or, refl, ap₂}
use Rattle.std.specs.Prelude.{nat_lt}
use Rattle.ctt_problem.specs.BitRows.{BitTable, is_marked_in, marks_of, HasSize}
use Rattle.ctt_problem.specs.Problem.{is_unavailable}
use Rattle.ctt_problem.specs.Instance.{problem_in, IsInstance}
use Rattle.ctt_problem.specs.declared.instance.Instance.TheInside.{Inside}
use Rattle.ctt_problem.proofs.BitRowLemmas.{marks_length, mark_asked}

-- the sizes of the three tables
pub record HaveSizes (i : Inside) (of_courses of_both of_rooms : BitTable) : Type 0 where
  pub closed : HasSize of_courses (length i.courses.items) (i.days * i.periods)
  pub barred : HasSize of_both (length i.courses.items) (length i.capacities.items)
  pub blocked : HasSize of_rooms (length i.capacities.items) (i.days * i.periods)

-- a table of this size has this many marks
sized : (table : BitTable) (rows width : ℕ) → HasSize table rows width → length (marks_of table) ≡ rows * width
sized table rows width size = marks_length table ∙ ap₂ (λ a b. a * b) size.0 size.1

-- with other side tables of these sizes it is an instance again
pub tables_instance : (i : Inside) (closed barred blocked : BitTable) → IsInstance i → HaveSizes i closed barred blocked → IsInstance (record i { closed = closed; barred = barred; blocked = blocked })
tables_instance i closed barred blocked h sizes =
    let p = h.problem in
    let n = h.named in
    record {
      problem = record {
        courses_few = p.courses_few;
        rooms_few = p.rooms_few;
        curricula_few = p.curricula_few;
        teachers_few = p.teachers_few;
        days_few = p.days_few;
        periods_few = p.periods_few;
        slots_few = p.slots_few;
        marked = p.marked;
        closures_marked = sized closed _ _ sizes.closed;
        rooms_marked = sized barred _ _ sizes.barred;
        rooms_blocked = sized blocked _ _ sizes.blocked;
        courses_named = p.courses_named;
        rooms_named = p.rooms_named;
        curricula_named = p.curricula_named;
        courses = p.courses;
        capacities = p.capacities;
        curricula = p.curricula;
        teachers_seen = p.teachers_seen;
        pairs_few = p.pairs_few;
      };
      named = record { name = n.name; courses = n.courses; teachers = n.teachers; rooms = n.rooms; curricula = n.curricula };
      clashes = record { size = h.clashes.size; marks = h.clashes.marks };
      available = h.available;
      closed = sizes.closed;
      barred = sizes.barred;
      blocked = sizes.blocked;
      belonging = record { size = h.belonging.size; list = h.belonging.list };
      taught = record { size = h.taught.size; list = h.taught.list };
    }

in_both : (b x y : Bool) → ((b && x) || (b && y)) ≡ (b && (x || y))
in_both true x y = refl
in_both false x y = refl

-- what the first table marks, or else the second one
pub unavailable_by : (i : Inside) (c s row mark : ℕ) → IsInstance i → row ≡ c → mark ≡ s → c < length i.courses.items → s < i.days * i.periods → (is_marked_in i.unavailable row mark || is_marked_in i.closed row mark) ≡ is_unavailable (problem_in i) c s
unavailable_by i c s row mark is row_is mark_is less lt =
    let slots : ℕ = i.days * i.periods in
    ap₂ (λ r m. is_marked_in i.unavailable r m || is_marked_in i.closed r m) row_is mark_is
    ∙ ap₂ (λ a b. a || b) (mark_asked i.unavailable _ _ c s is.available less lt) (mark_asked i.closed _ _ c s is.closed less lt)
    ∙ in_both (nat_lt s slots) (get_or (marks_of i.unavailable) (c * slots + s) false) (get_or (marks_of i.closed) (c * slots + s) false)

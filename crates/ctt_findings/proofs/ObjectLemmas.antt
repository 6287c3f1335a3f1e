-- The objects of findings, which contain no float.
use Rattle.std.proofs.Common.{◌≡◌, ℕ, ◌+◌, ◌<◌, Bool, true, false, ◌||◌, List, [], ◌∷◌, ◌++◌, drop, length, get_or, refl, sym, ap, ap₂, ◌∙◌, Ordering, Less, Equal, Greater, true≢false}
use Rattle.std.specs.Ordering.{match_ordering}
use Rattle.std.proofs.lemmas.List.{drop_more}
use Rattle.serde_json.specs.Data.{Data, Items, Members, item, member, no_items, no_members, put}
use Rattle.serde_json.specs.View.{items_view, view}
use Rattle.serde_json.specs.Written.{has_float, items_have_float, members_have_float}
use Rattle.serde_json.specs.declared.value.Value.{Value}
use Rattle.ctt_problem.specs.Problem.{Problem}
use Rattle.ctt_findings.specs.Lines.{Fact, FactContent, facts, number, word}
use Rattle.ctt_findings.specs.Objects.{object_of, objects_of, value_of, with_facts}
use Rattle.ctt_findings.specs.declared.finding.Finding.{Finding}

neither : (a b : Bool) → a || b ≡ false → (a ≡ false) × (b ≡ false)
neither true b h = absurd (true≢false h)
neither false b h = (refl, h)

ordered : (o : Ordering) (a b c : Members) → members_have_float a ≡ false → members_have_float b ≡ false → members_have_float c ≡ false → members_have_float (match_ordering o a b c) ≡ false
ordered Less a b c p q r = p
ordered Equal a b c p q r = q
ordered Greater a b c p q r = r

pub put_no_float : (k : List ℕ) (d : Data) (ms : Members) → has_float d ≡ false → members_have_float ms ≡ false → members_have_float (put k d ms) ≡ false
put_no_float k d no_members p q = ap₂ (λ a b. a || b) p q
put_no_float k d (member l e ms) p q =
    let old = neither (has_float e) (members_have_float ms) q in
    ordered _ (member k d (member l e ms)) (member l d ms) (member l e (put k d ms)) (ap₂ (λ a b. a || b) p q) (ap₂ (λ a b. a || b) p old.1)
    (ap₂ (λ a b. a || b) old.0 (put_no_float k d ms p old.1))

value_no_float : (t : FactContent) → has_float (value_of t) ≡ false
value_no_float (word w) = refl
value_no_float (number n) = refl

facts_no_float : (fs : List Fact) (ms : Members) → members_have_float ms ≡ false → members_have_float (with_facts fs ms) ≡ false
facts_no_float [] ms h = h
facts_no_float (f ∷ fs) ms h = facts_no_float fs (put f.key (value_of f.value) ms) (put_no_float f.key (value_of f.value) ms (value_no_float f.value) h)

pub object_no_float : (i : Problem) (f : Finding) → has_float (object_of i f) ≡ false
object_no_float i f = facts_no_float (facts i f) no_members refl

pub objects_no_float : (i : Problem) (fs : List Finding) → items_have_float (objects_of i fs) ≡ false
objects_no_float i [] = refl
objects_no_float i (f ∷ fs) = ap₂ (λ a b. a || b) (object_no_float i f) (objects_no_float i fs)

-- an array that grows at its end
abbrev pub items_before : List Value → Items → Items
items_before [] rest = rest
items_before (v ∷ vs) rest = item (view v) (items_before vs rest)

pub items_whole : (vs : List Value) → items_before vs no_items ≡ items_view vs
items_whole [] = refl
items_whole (v ∷ vs) = ap (item (view v)) (items_whole vs)

pub items_push : (vs : List Value) (v : Value) (rest : Items) → items_before vs (item (view v) rest) ≡ items_before (vs ++ v ∷ []) rest
items_push [] v rest = refl
items_push (w ∷ vs) v rest = ap (item (view w)) (items_push vs v rest)

pub objects_next : (i : Problem) (fs : List Finding) (k : ℕ) (f : Finding) (vs : List Value) (v : Value) (more : List Value) → k < length fs → f ≡ get_or fs k f → view v ≡ object_of i f → more ≡ vs ++ v ∷ []
    → items_before vs (objects_of i (drop k fs)) ≡ objects_of i fs → items_before more (objects_of i (drop (k + 1) fs)) ≡ objects_of i fs
objects_next i fs k f vs v more lt at is grown so_far =
    let rest : Items = objects_of i (drop (k + 1) fs) in
    ap (λ ws. items_before ws rest) grown ∙ sym (items_push vs v rest) ∙ ap (λ d. items_before vs (item d rest)) is
    ∙ ap (λ gs. items_before vs (objects_of i gs)) (sym (drop_more fs k f lt ∙ ap (λ g. g ∷ drop (k + 1) fs) (sym at))) ∙ so_far

-- The walk over words in which `clap` finds no fault: its rows are those of arguments, and it
-- enters no command that is refused.
use Rattle.std.proofs.Common.{◌≡◌, ◌&&◌, ℕ, Bool, true, false, not, zero, suc, refl, List, [], ◌∷◌, Option, Some, None, length, cond, drop, is_some, option_map}
use Rattle.std.specs.Prelude.{encode_utf8, slice_get}
use Rattle.std.specs.List.{find, fold, list_all}
use Rattle.std.specs.Option.{option_map_or}
use Rattle.std.specs.Str.{bytes_eq, chars}
use Rattle.clap.specs.Lexer.{long_of, short_of}
use Rattle.clap.specs.Faults.{bundle_step_fault, check_fault, defaults_fault, flag_word_fault, level_fault, flags_fault, long_fault, option_fault, bundle_fault, other_fault, positional_fault, react_fault, settle_fault, short_fault, step_fault, stray_fault, turn_fault, walk_fault, word_fault}
use Rattle.clap.specs.Kinds.{Kinds, or_else}
use Rattle.clap.specs.declared.error.kind.ErrorKind.TheVariants.{TooManyValues}
use Rattle.clap.specs.Simple.{Shape}
use Rattle.clap.specs.Walk.{Held, Names, Outcome, Rule, Step, Text, Waiting, Walk, after_flag, after_step, answers_to, arg_by_id, arg_by_index, arg_by_long, arg_by_short, attached_value, bundle, bundle_met, bundle_step, done, flag_met, has_long, has_short, idle, is_pending, long_met, nothing_held, long_or_other, next, option, option_met, option_word, plain, plain_word, positional, pushed, reacted, refused, rows_after, settled, short_met, stop_after, short_or_plain, subcommand, subcommand_met, subcommand_or_other, takes_several, takes_values, to_positional, trailing, value, waits, walk, walk_from, walked, walked_from, word_met}
use Rattle.ctt_words.proofs.Rows.{AreRows, IsIn, all_in, defaults_rows, found_in, is_giving, nil_first, nil_second, settled_are, used_rows}

module _ (c : List Rule) (gives : list_all is_giving c ≡ true) (again : Bool) where
  reacted_rows : (a : Rule) (values : List Text) (h : Held) → IsIn a c → react_fault c again a values h ≡ [] → AreRows c h.rows → AreRows c (reacted c a values h).rows
  reacted_rows a values h at none all =
      used_rows c again a values (settled c h).rows at (all_in is_giving c a gives at) (nil_second (settle_fault c again h) _ none)
      (settled_are c gives again h (nil_first (settle_fault c again h) _ none) all)

  option_rows : (a : Rule) (v : Option Text) (h : Held) → IsIn a c → option_fault c again a v h ≡ [] → AreRows c h.rows → AreRows c (option_met c a v h).0.rows
  option_rows a None h at none all = settled_are c gives again h none all
  option_rows a (Some v) h at none all = reacted_rows a (v ∷ []) h at none all

  flag_rows : (a : Rule) (v : Option Text) (h : Held) → IsIn a c → cond (is_some v) (TooManyValues ∷ []) (react_fault c again a [] h) ≡ [] → AreRows c h.rows
      → AreRows c (flag_met c a v h).0.rows
  flag_rows a None h at none all = reacted_rows a [] h at none all
  flag_rows a (Some v) h at none all = all

  long_here : (takes : Bool) (a : Rule) (v : Option Text) (h : Held) → IsIn a c
      → cond takes (option_fault c again a v h) (cond (is_some v) (TooManyValues ∷ []) (react_fault c again a [] h)) ≡ [] → AreRows c h.rows
      → AreRows c (cond takes (option_met c a v h) (flag_met c a v h)).0.rows
  long_here true a v h at none all = option_rows a v h at none all
  long_here false a v h at none all = flag_rows a v h at none all

  long_rows : (o : Option Rule) (v : Option Text) (h : Held) → ((a : Rule) → o ≡ Some a → IsIn a c) → long_fault c again o v h ≡ [] → AreRows c h.rows
      → AreRows c (long_met c o v h).0.rows
  long_rows None v h at none all = all
  long_rows (Some a) v h at none all = long_here (takes_values a) a v h (at a refl) none all

  -- ---- a bundle of flags

  short_here : (takes : Bool) (a : Rule) (rest : Text) (h : Held) (go : Held → Held × Outcome) (fault : Held → Kinds) → IsIn a c
      → ((g : Held) → fault g ≡ [] → AreRows c g.rows → AreRows c (go g).0.rows)
      → cond takes (option_fault c again a (attached_value rest) h) (or_else (react_fault c again a [] h) (fault (reacted c a [] h))) ≡ [] → AreRows c h.rows
      → AreRows c (cond takes (option_met c a (attached_value rest) h) (go (reacted c a [] h))).0.rows
  short_here true a rest h go fault at more none all = option_rows a (attached_value rest) h at none all
  short_here false a rest h go fault at more none all =
      more (reacted c a [] h) (nil_second (react_fault c again a [] h) _ none) (reacted_rows a [] h at (nil_first (react_fault c again a [] h) _ none) all)

  short_rows : (o : Option Rule) (rest : Text) (h : Held) (go : Held → Held × Outcome) (fault : Held → Kinds) → ((a : Rule) → o ≡ Some a → IsIn a c)
      → ((g : Held) → fault g ≡ [] → AreRows c g.rows → AreRows c (go g).0.rows)
      → short_fault c again o rest h fault ≡ [] → AreRows c h.rows → AreRows c (short_met c o rest h go).0.rows
  short_rows None rest h go fault at more none all = all
  short_rows (Some a) rest h go fault at more none all = short_here (takes_values a) a rest h go fault (at a refl) more none all

  step_rows : (o : Option ℕ) (flags : Text) (skip : ℕ) (so_far : Outcome) (h : Held) (go : Text → ℕ → Outcome → Held → Held × Outcome) (fault : Text → ℕ → Held → Kinds)
      → ((t : Text) (n : ℕ) (r : Outcome) (g : Held) → fault t n g ≡ [] → AreRows c g.rows → AreRows c (go t n r g).0.rows)
      → bundle_step_fault c again o flags skip h fault ≡ [] → AreRows c h.rows → AreRows c (bundle_step c o flags skip so_far h go).0.rows
  step_rows None flags skip so_far h go fault more none all = all
  step_rows (Some x) flags zero so_far h go fault more none all =
      let rest = drop (length (encode_utf8 x)) flags in
      short_rows (arg_by_short c x) rest h (go rest 0 done) (fault rest 0) (λ a is. found_in (λ b. not (is_some b.index) && has_short b x) c a is)
      (λ g. more rest 0 done g) none all
  step_rows (Some x) flags (suc skip) so_far h go fault more none all = more (drop (length (encode_utf8 x)) flags) skip so_far h none all

  bundle_rows : (k : ℕ) (flags : Text) (skip : ℕ) (so_far : Outcome) (h : Held) → flags_fault c again k flags skip h ≡ [] → AreRows c h.rows
      → AreRows c (bundle_met c k flags skip so_far h).0.rows
  unfolding bundle_met flags_fault
  bundle_rows zero flags skip so_far h none all = all
  bundle_rows (suc k) flags skip so_far h none all =
      step_rows (slice_get (chars flags) 0) flags skip so_far h (bundle_met c k) (flags_fault c again k) (λ t n r g. bundle_rows k t n r g) none all

  -- ---- a word

  option_word_rows : (o : Option Rule) (id word : Text) (h : Held) → AreRows c h.rows → AreRows c (option_word o id word h).0.rows
  option_word_rows None id word h all = all
  option_word_rows (Some a) id word h all = all

  plain_rows : (waiting : Waiting) (word : Text) (h : Held) → AreRows c h.rows → AreRows c (plain_word c waiting word h).0.rows
  plain_rows (option id) word h all = option_word_rows (arg_by_id c id) id word h all
  plain_rows idle word h all = all
  plain_rows positional word h all = all

  after_flag_rows : (waiting : Waiting) (word : Text) (h : Held) (o : Outcome) → AreRows c h.rows → AreRows c (after_flag c waiting word h o).0.rows
  after_flag_rows waiting word h done all = all
  after_flag_rows waiting word h (waits id) all = all
  after_flag_rows waiting word h plain all = plain_rows waiting word h all
  after_flag_rows waiting word h refused all = plain_rows waiting word h all

  short_or_plain_rows : (waiting : Waiting) (word : Text) (o : Option Text) (h : Held) → option_map_or (λ flags. bundle_fault c again flags h) o [] ≡ [] → AreRows c h.rows
      → AreRows c (short_or_plain c waiting word o h).0.rows
  short_or_plain_rows waiting word None h none all = plain_rows waiting word h all
  short_or_plain_rows waiting word (Some flags) h none all =
      after_flag_rows waiting word (bundle c flags h).0 (bundle c flags h).1 (bundle_rows (length flags) flags h.skip plain (record h { skip = 0 }) none all)

  long_or_other_rows : (waiting : Waiting) (word : Text) (o : Option (Text × Option Text)) (h : Held) → flag_word_fault c again o word h ≡ [] → AreRows c h.rows
      → AreRows c (long_or_other c waiting word o h).0.rows
  long_or_other_rows waiting word None h none all = short_or_plain_rows waiting word (short_of word) h none all
  long_or_other_rows waiting word (Some p) h none all =
      after_flag_rows waiting word (long_met c (arg_by_long c p.0) p.1 h).0 (long_met c (arg_by_long c p.0) p.1 h).1
      (long_rows (arg_by_long c p.0) p.1 h (λ a is. found_in (λ b. not (is_some b.index) && has_long b p.0) c a is) none all)

-- ---- the walk of a command

module _ (s : Shape) (names : Names) where
  -- the faults of one step, if the walk has not stopped
  abbrev going_fault : Walk → Text → Kinds
  going_fault w word = or_else (word_fault s names w.is_trailing w.waiting word w.held)
      (step_fault s w.position (word_met s.rules names w.is_trailing w.waiting w.position word w.held).0 (word_met s.rules names w.is_trailing w.waiting w.position word w.held).1)

module _ (s : Shape) (gives : list_all is_giving s.rules ≡ true) (names : Names) where
  dashes_rows : (t : Bool) (waiting : Waiting) (position : ℕ) (word : Text) (h : Held)
      → cond t [] (flag_word_fault s.rules s.args_override_self (long_of word) word h) ≡ [] → AreRows s.rules h.rows
      → AreRows s.rules (cond t (h, trailing position) (long_or_other s.rules waiting word (long_of word) h)).0.rows
  dashes_rows true waiting position word h none all = all
  dashes_rows false waiting position word h none all = long_or_other_rows s.rules gives s.args_override_self waiting word (long_of word) h none all

  other_rows : (o : Option Text) (waiting : Waiting) (position : ℕ) (word : Text) (h : Held) → other_fault s o word h ≡ [] → AreRows s.rules h.rows
      → AreRows s.rules (subcommand_or_other s.rules o waiting position word h).0.rows
  other_rows None waiting position word h none all = dashes_rows (bytes_eq word (45 ∷ 45 ∷ [])) waiting position word h none all
  other_rows (Some name) waiting position word h none all = all

  word_rows : (t : Bool) (waiting : Waiting) (position : ℕ) (word : Text) (h : Held) → word_fault s names t waiting word h ≡ [] → AreRows s.rules h.rows
      → AreRows s.rules (word_met s.rules names t waiting position word h).0.rows
  word_rows true waiting position word h none all = all
  word_rows false waiting position word h none all = other_rows (subcommand_met names waiting word) waiting position word h none all

  held_rows : (t : Bool) (a : Rule) (word : Text) (h : Held) → cond t [] (settle_fault s.rules s.args_override_self h) ≡ [] → AreRows s.rules h.rows
      → AreRows s.rules (pushed a.id word (cond t h (settled s.rules h))).rows
  held_rows true a word h none all = all
  held_rows false a word h none all = settled_are s.rules gives s.args_override_self h none all

  positional_rows : (o : Option Rule) (word : Text) (w : Walk) (h : Held)
      → option_map_or (λ a. positional_fault s.rules s.args_override_self a h) o (stray_fault s) ≡ [] → AreRows s.rules h.rows
      → AreRows s.rules (to_positional s.rules o word w h).held.rows
  positional_rows None word w h none all = all
  positional_rows (Some a) word w h none all = held_rows (is_pending a h.pending && takes_several a) a word h none all

  after_rows : (word : Text) (w : Walk) (h : Held) (step : Step) → step_fault s w.position h step ≡ [] → AreRows s.rules h.rows
      → AreRows s.rules (after_step s.rules word w h step).held.rows
  after_rows word w h (next waiting) none all = all
  after_rows word w h (trailing position) none all = all
  after_rows word w h (subcommand name) none all = all
  after_rows word w h value none all = positional_rows (arg_by_index s.rules w.position) word w h none all

  turn_rows : (stopped : Option (Text × List Text)) (w : Walk) (word : Text) → cond (is_some stopped) [] (going_fault s names w word) ≡ [] → AreRows s.rules w.held.rows
      → AreRows s.rules (walked_from s.rules names stopped w word).held.rows
  turn_rows None w word none all =
      after_rows word w _ (word_met s.rules names w.is_trailing w.waiting w.position word w.held).1 (nil_second (word_fault s names w.is_trailing w.waiting word w.held) _ none)
      (word_rows w.is_trailing w.waiting w.position word w.held (nil_first (word_fault s names w.is_trailing w.waiting word w.held) _ none) all)
  turn_rows (Some p) w word none all = all

  pub walk_rows : (words : List Text) (w : Walk) → walk_fault s names w words ≡ [] → AreRows s.rules w.held.rows
      → AreRows s.rules (fold (walked s.rules names) w words).held.rows
  unfolding walked walk_fault
  walk_rows [] w none all = all
  walk_rows (word ∷ words) w none all =
      walk_rows words (walked s.rules names w word) (nil_second (turn_fault s names w word) _ none) (turn_rows w.stopped w word (nil_first (turn_fault s names w word) _ none) all)

-- ---- where the walk stops

module _ (s : Shape) (names : Names) where
  -- a word names the command, and it is not help that is asked for
  abbrev pub MayEnter : Text → Type 0
  MayEnter name = (word : Text) × (option_map (λ n. n.0) (find (answers_to word) names) ≡ Some name) × (other_fault s (Some name) [] nothing_held ≡ [])

  abbrev pub MayStop : Option (Text × List Text) → Type 0
  MayStop None = Unit {0}
  MayStop (Some p) = MayEnter p.0

  abbrev MayStep : Step → Type 0
  MayStep (subcommand name) = MayEnter name
  MayStep (next waiting) = Unit {0}
  MayStep (trailing position) = Unit {0}
  MayStep value = Unit {0}

  plain_steps : (waiting : Waiting) (word : Text) (h : Held) → MayStep (plain_word s.rules waiting word h).1
  plain_steps (option id) word h = tt
  plain_steps idle word h = tt
  plain_steps positional word h = tt

  after_flag_steps : (waiting : Waiting) (word : Text) (h : Held) (o : Outcome) → MayStep (after_flag s.rules waiting word h o).1
  after_flag_steps waiting word h done = tt
  after_flag_steps waiting word h (waits id) = tt
  after_flag_steps waiting word h plain = plain_steps waiting word h
  after_flag_steps waiting word h refused = plain_steps waiting word h

  short_or_plain_steps : (waiting : Waiting) (word : Text) (o : Option Text) (h : Held) → MayStep (short_or_plain s.rules waiting word o h).1
  short_or_plain_steps waiting word None h = plain_steps waiting word h
  short_or_plain_steps waiting word (Some flags) h = after_flag_steps waiting word (bundle s.rules flags h).0 (bundle s.rules flags h).1

  long_or_other_steps : (waiting : Waiting) (word : Text) (o : Option (Text × Option Text)) (h : Held) → MayStep (long_or_other s.rules waiting word o h).1
  long_or_other_steps waiting word None h = short_or_plain_steps waiting word (short_of word) h
  long_or_other_steps waiting word (Some p) h =
      after_flag_steps waiting word (long_met s.rules (arg_by_long s.rules p.0) p.1 h).0 (long_met s.rules (arg_by_long s.rules p.0) p.1 h).1

  dashes_steps : (t : Bool) (waiting : Waiting) (position : ℕ) (word : Text) (h : Held)
      → MayStep (cond t (h, trailing position) (long_or_other s.rules waiting word (long_of word) h)).1
  dashes_steps true waiting position word h = tt
  dashes_steps false waiting position word h = long_or_other_steps waiting word (long_of word) h

  other_steps : (o : Option Text) (waiting : Waiting) (position : ℕ) (word : Text) (h : Held)
      → ((name : Text) → o ≡ Some name → (by : Text) × (option_map (λ n. n.0) (find (answers_to by) names) ≡ Some name))
      → other_fault s o word h ≡ [] → MayStep (subcommand_or_other s.rules o waiting position word h).1
  other_steps None waiting position word h named none = dashes_steps (bytes_eq word (45 ∷ 45 ∷ [])) waiting position word h
  other_steps (Some name) waiting position word h named none = ((named name refl).0, (named name refl).1, none)

  met_named : (waiting : Waiting) (word name : Text) → subcommand_met names waiting word ≡ Some name
      → (by : Text) × (option_map (λ n. n.0) (find (answers_to by) names) ≡ Some name)
  met_named idle word name e = (word, e)
  met_named (option id) word name e = cc
  met_named positional word name e = cc

  word_steps : (t : Bool) (waiting : Waiting) (position : ℕ) (word : Text) (h : Held) → word_fault s names t waiting word h ≡ []
      → MayStep (word_met s.rules names t waiting position word h).1
  word_steps true waiting position word h none = tt
  word_steps false waiting position word h none =
      other_steps (subcommand_met names waiting word) waiting position word h (λ name e. met_named waiting word name e) none

  to_positional_stops : (o : Option Rule) (word : Text) (w : Walk) (h : Held) → MayStop w.stopped → MayStop (to_positional s.rules o word w h).stopped
  to_positional_stops None word w h was = was
  to_positional_stops (Some a) word w h was = tt

  after_stops : (word : Text) (w : Walk) (h : Held) (step : Step) → MayStep step → MayStop w.stopped → MayStop (after_step s.rules word w h step).stopped
  after_stops word w h (next waiting) may was = was
  after_stops word w h (trailing position) may was = was
  after_stops word w h (subcommand name) may was = may
  after_stops word w h value may was = to_positional_stops (arg_by_index s.rules w.position) word w h was

  turn_stops : (stopped : Option (Text × List Text)) (w : Walk) (word : Text) → cond (is_some stopped) [] (going_fault s names w word) ≡ [] → MayStop stopped → MayStop w.stopped
      → MayStop (walked_from s.rules names stopped w word).stopped
  turn_stops None w word none may was =
      after_stops word w _ (word_met s.rules names w.is_trailing w.waiting w.position word w.held).1
      (word_steps w.is_trailing w.waiting w.position word w.held (nil_first (word_fault s names w.is_trailing w.waiting word w.held) _ none)) was
  turn_stops (Some p) w word none may was = may

  pub walk_stops : (words : List Text) (w : Walk) → walk_fault s names w words ≡ [] → MayStop w.stopped
      → MayStop (fold (walked s.rules names) w words).stopped
  unfolding walked walk_fault
  walk_stops [] w none was = was
  walk_stops (word ∷ words) w none was =
      walk_stops words (walked s.rules names w word) (nil_second (turn_fault s names w word) _ none) (turn_stops w.stopped w word (nil_first (turn_fault s names w word) _ none) was was)

-- ---- a level of the parse

pub level_rows : (s : Shape) → list_all is_giving s.rules ≡ true → (names : Names) (words : List Text) (has : Bool) (below : Kinds)
    → level_fault s names nothing_held words has below ≡ [] → AreRows s.rules (rows_after s.rules names words)
level_rows s gives names words has below none =
    let end = (walk s.rules names nothing_held words).held in
    let walked_none = nil_first (walk_fault s names (walk_from nothing_held) words) _ none in
    let later = nil_second below _ (nil_second (walk_fault s names (walk_from nothing_held) words) _ none) in
    let settled_none = nil_first (settle_fault s.rules s.args_override_self end) _ later in
    let defaults_none = nil_first (defaults_fault (settled s.rules end).rows s.rules) _ (nil_second (settle_fault s.rules s.args_override_self end) _ later) in
    defaults_rows s.rules (settled s.rules end).rows defaults_none
    (settled_are s.rules gives s.args_override_self end settled_none (walk_rows s gives names words (walk_from nothing_held) walked_none tt))

pub level_below : (s : Shape) (names : Names) (words : List Text) (has : Bool) (below : Kinds) → level_fault s names nothing_held words has below ≡ [] → below ≡ []
level_below s names words has below none = nil_first below _ (nil_second (walk_fault s names (walk_from nothing_held) words) _ none)

pub level_checked : (s : Shape) (names : Names) (words : List Text) (has : Bool) (below : Kinds) → level_fault s names nothing_held words has below ≡ []
    → check_fault s (rows_after s.rules names words) has ≡ []
level_checked s names words has below none =
    let end = (walk s.rules names nothing_held words).held in
    nil_second (defaults_fault (settled s.rules end).rows s.rules) _ (nil_second (settle_fault s.rules s.args_override_self end) _
    (nil_second below _ (nil_second (walk_fault s names (walk_from nothing_held) words) _ none)))

pub level_stops : (s : Shape) (names : Names) (words : List Text) (has : Bool) (below : Kinds)
    → level_fault s names nothing_held words has below ≡ [] → MayStop s names (stop_after s.rules names words)
level_stops s names words has below none =
    walk_stops s names words (walk_from nothing_held) (nil_first (walk_fault s names (walk_from nothing_held) words) _ none) tt

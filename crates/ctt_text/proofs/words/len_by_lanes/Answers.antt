use Rattle.std.proofs.Common.{◌≡◌, ◌+◌, ◌-◌, not, length, take, drop, sym, ap, ◌∙◌, arith}
use Rattle.std.proofs.lemmas.List.{take_all, length-drop}
use Rattle.std.proofs.lemmas.List.Sums.{prefix_len-le-length}
use Rattle.std.specs.List.{position_or_len}
use lib.Count.{count_trailing_zeros}
use Rattle.ctt_problem.specs.Named.{is_blank}
use Rattle.ctt_text.proofs.LaneLemmas.{run_through, run_stops}
use Rattle.ctt_text.proofs.words.len_by_lanes.Goals as goal

-- if no lane is blank, the length is the number of lanes plus the length of the rest
behind : (g : _) (c : goal.After-len_by_bytes g) → g.row.N + c.len_by_bytes.result ≡ position_or_len is_blank c.args.bytes.now
behind g c =
    let xs = c.args.bytes.now in
    let rest : take (length xs - g.row.N) (drop g.row.N xs) ≡ drop g.row.N xs = take_all (length xs - g.row.N) (drop g.row.N xs) (omega (arith, length-drop g.row.N xs)) in
    ap (λ k. g.row.N + k) (c.len_by_bytes.ensures ∙ ap (position_or_len is_blank) rest)
    ∙ sym (run_through is_blank xs g.row.N c.requires.1 (sym c.blanks-found.ensures ∙ c.if-found-ne0.false))

pub overflow_add-result : goal.overflow_add-result
overflow_add-result g c =
    let xs = c.args.bytes.now in
    record { fits = omega (arith, behind g c, prefix_len-le-length (λ x. not (is_blank x)) xs) }

pub returns-then-found-ne0 : goal.returns-then-found-ne0
returns-then-found-ne0 g c =
    ap (count_trailing_zeros 64) c.blanks-found.ensures
    ∙ sym (run_stops is_blank c.args.bytes.now g.row.N c.requires.1 c.requires.0 (omega (arith, c.blanks-found.ensures, c.if-found-ne0.true)))

pub returns-else-found-ne0 : goal.returns-else-found-ne0
returns-else-found-ne0 g c = behind g c

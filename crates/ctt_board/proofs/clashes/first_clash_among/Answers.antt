use Rattle.std.proofs.Common.{rules, ◌≡◌, ◌∙◌, ◌&&◌, ltb, None, Some, ap, subst}
use Rattle.ctt_problem.specs.Marks.{is_marked, IsLeast}
use Rattle.ctt_board.proofs.ClashLemmas.{clash_is}
use Rattle.ctt_board.proofs.clashes.first_clash_among.Goals as goal

pub returns-in_err-number : goal.returns-in_err-number
returns-in_err-number c = λ slot t lawful stand.
    c.from_residual.ensures ∙ clash_is c.args.instance.now t lawful c.args.course slot (is_marked c.args.standing.now) (is_marked c.clashing.result) None stand c.clashing.ensures (subst (λ k. IsLeast (λ n. ltb n k && (is_marked c.args.standing.now n && is_marked c.clashing.result n)) None) c.courses-courses.ensures.exact c.in_err-number.ensures.least)

pub returns : goal.returns
returns c = λ slot t lawful stand.
    let number : c.new.result ≡ c.in_ok-number.number = search rules in
    ap Some number ∙ clash_is c.args.instance.now t lawful c.args.course slot (is_marked c.args.standing.now) (is_marked c.clashing.result) (Some c.in_ok-number.number) stand c.clashing.ensures (subst (λ k. IsLeast (λ n. ltb n k && (is_marked c.args.standing.now n && is_marked c.clashing.result n)) (Some c.in_ok-number.number)) c.courses-courses.ensures.exact c.in_ok-number.ensures.least)

use Rattle.std.proofs.Common.{rules, ◌≡◌, ◌∙◌, ◌∷◌, ◌++◌, [], arith, length, refl, subst, sym}
use Rattle.std.specs.List.{AllByRecursion as Each}
use Rattle.std.specs.Vec.Iter.{into_iter_items}
use Rattle.std.proofs.lemmas.Grind.{common_steps}
use Rattle.std.proofs.lemmas.List.{nil_from_length}
use Rattle.ctt_files.specs.Texts.{Held}
use Rattle.ctt_commands.specs.Groups.{CandidateFits, IsCandidate}
use Rattle.ctt_commands.proofs.CompareLemmas.{all_ahead, none_ahead, one_ahead, one_fits}
use Rattle.ctt_commands.proofs.candidates.fetch_all.Goals as goal

pub loop-file-init : goal.loop-file-init
loop-file-init g c =
    let first : into_iter_items c.into_iter-file-iterator.result ≡ c.args.solutions.items = search rules in
    let none : c.new-candidates.result.items ≡ [] = search rules in
    record {
      ahead = none_ahead (IsCandidate (g.F.Files.held c.args.files.now) c.args.instance.now) c.args.solutions.items _ _ first none;
      fit = subst (Each (CandidateFits c.args.instance.now)) (sym none) tt;
      kept = refl;
    }

pub loop-file-preserved : goal.loop-file-preserved
loop-file-preserved g c =
    let held : Held = g.F.Files.held c.args.files.now in
    let step : into_iter_items c.loop-file.file-iterator ≡ c.in-Some.file ∷ into_iter_items c.next.new.self = search rules in
    let candidate = c.in_ok-fetch_candidate.field-0 in
    let is : IsCandidate held c.args.instance.now c.in-Some.file candidate = subst (λ (known : Held). IsCandidate known c.args.instance.now c.in-Some.file candidate) c.loop-file.invariant.kept c.in_ok-fetch_candidate.ensures.candidate in
    record {
      ahead = one_ahead (IsCandidate held c.args.instance.now) c.args.solutions.items _ _ c.in-Some.file c.loop-file.candidates.items _ candidate step (search rules) is c.loop-file.invariant.ahead;
      fit = one_fits (CandidateFits c.args.instance.now) c.loop-file.candidates.items _ candidate (search rules) c.loop-file.invariant.fit c.in_ok-fetch_candidate.ensures.fits;
      kept = c.in_ok-fetch_candidate.ensures.kept ∙ c.loop-file.invariant.kept;
    }

pub returns-clause-candidates : goal.returns-clause-candidates
returns-clause-candidates g c =
    let zero : length (into_iter_items c.loop-file.file-iterator) ≡ 0 = grind (arith, common_steps) in
    let none : into_iter_items c.loop-file.file-iterator ≡ [] = nil_from_length (into_iter_items c.loop-file.file-iterator) zero in
    all_ahead (IsCandidate (g.F.Files.held c.args.files.now) c.args.instance.now) c.args.solutions.items _ _ none c.loop-file.invariant.ahead

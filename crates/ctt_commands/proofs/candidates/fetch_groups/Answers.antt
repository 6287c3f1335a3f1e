use Rattle.std.proofs.Common.{rules, ◌≡◌, ◌∙◌, ◌∷◌, ◌++◌, [], arith, length, refl, subst, sym}
use Rattle.std.specs.List.{AllByRecursion as Each}
use Rattle.std.specs.Vec.Iter.{into_iter_items}
use Rattle.std.proofs.lemmas.Grind.{common_steps}
use Rattle.std.proofs.lemmas.List.{nil_from_length}
use Rattle.ctt_files.specs.Texts.{Held}
use Rattle.ctt_commands.specs.Groups.{GroupFits, IsGroup}
use Rattle.ctt_commands.proofs.CompareLemmas.{all_ahead, none_ahead, one_ahead, one_fits}
use Rattle.ctt_commands.proofs.candidates.fetch_groups.Goals as goal

pub loop-one-init : goal.loop-one-init
loop-one-init g c =
    let first : into_iter_items c.into_iter-one-iterator.result ≡ c.args.wanted.items = search rules in
    let none : c.new-groups.result.items ≡ [] = search rules in
    record {
      ahead = none_ahead (IsGroup (g.F.Files.held c.args.files.now)) c.args.wanted.items _ _ first none;
      fit = subst (Each GroupFits) (sym none) tt;
      kept = refl;
    }

pub loop-one-preserved : goal.loop-one-preserved
loop-one-preserved g c =
    let held : Held = g.F.Files.held c.args.files.now in
    let step : into_iter_items c.loop-one.one-iterator ≡ c.in-Some.one ∷ into_iter_items c.next.new.self = search rules in
    let group = c.in_ok-fetch_group.field-0 in
    let is : IsGroup held c.in-Some.one group = subst (λ (known : Held). IsGroup known c.in-Some.one group) c.loop-one.invariant.kept c.in_ok-fetch_group.ensures.group in
    record {
      ahead = one_ahead (IsGroup held) c.args.wanted.items _ _ c.in-Some.one c.loop-one.groups.items _ group step (search rules) is c.loop-one.invariant.ahead;
      fit = one_fits GroupFits c.loop-one.groups.items _ group (search rules) c.loop-one.invariant.fit c.in_ok-fetch_group.ensures.fits;
      kept = c.in_ok-fetch_group.ensures.kept ∙ c.loop-one.invariant.kept;
    }

pub returns-clause-groups : goal.returns-clause-groups
returns-clause-groups g c =
    let zero : length (into_iter_items c.loop-one.one-iterator) ≡ 0 = grind (arith, common_steps) in
    let none : into_iter_items c.loop-one.one-iterator ≡ [] = nil_from_length (into_iter_items c.loop-one.one-iterator) zero in
    all_ahead (IsGroup (g.F.Files.held c.args.files.now)) c.args.wanted.items _ _ none c.loop-one.invariant.ahead

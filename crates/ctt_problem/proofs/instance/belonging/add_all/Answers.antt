use Rattle.std.proofs.Common.{rules, ◌≡◌, ◌∙◌, ℕ, [], ◌∷◌, ◌++◌, map, get_or, cond, sym, ap, ap₂, subst, arith}
use Rattle.std.proofs.lemmas.List.{get_or-map, length-map}
use Rattle.ctt_problem.specs.Lists.{below, has}
use Rattle.ctt_problem.specs.Problem.{AreMembers}
use Rattle.ctt_problem.proofs.NumberListLemmas.{below_more}
use Rattle.ctt_problem.proofs.instance.belonging.add_all.Goals as goal

pub add_to_members-requires : goal.add_to_members-requires
add_to_members-requires c =
    let n = c.loop-number.number in
    let these : c.deref.result.now ≡ get_or (map (λ v. v.items) c.args.curricula.now) n [] = c.deref.ensures.value ∙ ap (λ v. v.items) c.index-curricula-number.is ∙ sym (get_or-map (λ v. v.items) c.args.curricula.now n c.index-curricula-number.result [] c.loop-number-test.true) in
    subst (λ x. AreMembers x c.deref.result.now) (sym c.loop-number.invariant.size) (rw these (c.requires.members n c.loop-number-test.true))

pub loop-number-preserved : goal.loop-number-preserved
loop-number-preserved c =
    let n = c.loop-number.number in
    let these : c.deref.result.now ≡ get_or (map (λ v. v.items) c.args.curricula.now) n [] = c.deref.ensures.value ∙ ap (λ v. v.items) c.index-curricula-number.is ∙ sym (get_or-map (λ v. v.items) c.args.curricula.now n c.index-curricula-number.result [] c.loop-number-test.true) in
    let number : c.new.result ≡ n = search rules in
    let adds = c.in_ok-add_to_members.ensures in
    let test : ℕ → ℕ → _ = λ d q. has d (get_or (map (λ v. v.items) c.args.curricula.now) q []) in
    record {
      size = omega (arith, adds.size, c.loop-number.invariant.size, length-map c.loop-number.lists (λ v. v.items), length-map c.add_to_members.new.lists (λ v. v.items));
      lists = λ d lt. adds.lists d (omega (arith, lt, c.loop-number.invariant.size, length-map c.loop-number.lists (λ v. v.items)))
          ∙ ap (λ xs. xs ++ cond (has d c.deref.result.now) (c.new.result ∷ []) []) (c.loop-number.invariant.lists d lt)
          ∙ ap₂ (λ q ms. below (λ q. has d (get_or (map (λ v. v.items) c.args.curricula.now) q [])) n ++ cond (has d ms) (q ∷ []) []) number these
          ∙ sym (below_more (λ q. has d (get_or (map (λ v. v.items) c.args.curricula.now) q [])) n);
    }

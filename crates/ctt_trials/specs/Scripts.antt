-- That the opening of a script is a timetable has one proof at most, so a script can hold it.
use Rattle.std.specs.Prelude.{List, [], ◌∷◌}
use Rattle.std.specs.Coded.{×_prop, Unit-prop}
use Rattle.std.specs.List.{AllByRecursion-prop}
use Rattle.std.proofs.Props.{props}
use Rattle.ctt_problem.specs.Lists.{Pairwise}
use Rattle.ctt_problem.specs.Problem.{Problem}
use Rattle.ctt_problem.specs.Timetable.{IsTimetable}
use Rattle.ctt_problem.specs.declared.placed.Placed.{Placed}

Pairwise-prop : {X : Type 0} (R : X → X → Type 0) → ((x y : X) → IsProp (R x y)) → (xs : List X) → IsProp (Pairwise R xs)
Pairwise-prop R prop [] = Unit-prop
Pairwise-prop R prop (x ∷ xs) = ×_prop (AllByRecursion-prop (R x) (prop x) xs) (Pairwise-prop R prop xs)

pub IsTimetable-prop : (i : Problem) (t : List Placed) → IsProp (IsTimetable i t)
IsTimetable-prop i t = Prim.hlevel (Pairwise-prop, props)

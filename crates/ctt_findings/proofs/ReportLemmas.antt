-- The members of the report's object, with its findings or without them.
use Rattle.std.proofs.Common.{◌≡◌, ℕ, Bool, true, false, ◌||◌, List, Option, Some, None, ◌++◌, codes, refl, ap, append_assoc, ◌∙◌}
use Rattle.serde_json.specs.Data.{Data, Members, boolean, member, no_members, number, object, put, string}
use Rattle.serde_json.specs.Written.{has_float}
use Rattle.serde_json.proofs.OnLiterals.{serde_json_on_literals}
use Rattle.ctt_problem.specs.Problem.{Problem, has_barred, has_blocked}
use Rattle.ctt_rules.specs.declared.cost.Cost.{Cost}
use Rattle.ctt_rules.specs.declared.hard.Hard.{Hard}
use Rattle.ctt_findings.specs.ReportText.{data_of, explained_data_of, file_member, members_before, members_behind, members_of, with_cost, with_file, with_hard}

-- the members with one more member
pub adds : {new old members : Members} (key : List ℕ) (value : Data) → new ≡ put key value old → old ≡ members → new ≡ put key value members
adds key value e was = e ∙ ap (put key value) was

-- the members put one after another, with the name of a file and without, if some room is barred or
-- blocked and if none is
pub all_put : (file : Option (List ℕ)) (name : List ℕ) (barred blocked : Bool) (hard : Hard) (cost : Cost) (lawful complete : Bool)
    → put (codes "complete") (boolean complete) (put (codes "lawful") (boolean lawful) (with_cost cost (with_hard barred blocked hard (put (codes "instance") (string name) (with_file file no_members)))))
    ≡ members_before barred blocked hard cost complete (file_member file (members_behind name hard cost lawful))
unfolding members_before members_behind serde_json_on_literals
all_put None name true true hard cost lawful complete = refl
all_put None name true false hard cost lawful complete = refl
all_put None name false true hard cost lawful complete = refl
all_put None name false false hard cost lawful complete = refl
all_put (Some file) name true true hard cost lawful complete = refl
all_put (Some file) name true false hard cost lawful complete = refl
all_put (Some file) name false true hard cost lawful complete = refl
all_put (Some file) name false false hard cost lawful complete = refl

-- the report with a member for its findings
put_before : (found : Data) (file : Option (List ℕ)) (name : List ℕ) (barred blocked : Bool) (hard : Hard) (cost : Cost) (lawful complete : Bool)
    → put (codes "findings") found (members_before barred blocked hard cost complete (file_member file (members_behind name hard cost lawful)))
    ≡ members_before barred blocked hard cost complete (file_member file (member (codes "findings") found (members_behind name hard cost lawful)))
unfolding members_before members_behind serde_json_on_literals
put_before found None name true true hard cost lawful complete = refl
put_before found None name true false hard cost lawful complete = refl
put_before found None name false true hard cost lawful complete = refl
put_before found None name false false hard cost lawful complete = refl
put_before found (Some file) name true true hard cost lawful complete = refl
put_before found (Some file) name true false hard cost lawful complete = refl
put_before found (Some file) name false true hard cost lawful complete = refl
put_before found (Some file) name false false hard cost lawful complete = refl

pub findings_put : (found : Data) (file : Option (List ℕ)) (i : Problem) (hard : Hard) (cost : Cost) (lawful complete : Bool)
    → object (put (codes "findings") found (members_of file i hard cost lawful complete)) ≡ explained_data_of found file i hard cost lawful complete
unfolding explained_data_of
findings_put found file i hard cost lawful complete = ap object (put_before found file i.name (has_barred i) (has_blocked i) hard cost lawful complete)

-- no number is a float
no_float_before : (barred blocked : Bool) (hard : Hard) (cost : Cost) (complete : Bool) (others : Members) → has_float (object others) ≡ false → has_float (object (members_before barred blocked hard cost complete others)) ≡ false
unfolding members_before
no_float_before true true hard cost complete others h = h
no_float_before true false hard cost complete others h = h
no_float_before false true hard cost complete others h = h
no_float_before false false hard cost complete others h = h

no_float_file : (file : Option (List ℕ)) (others : Members) → has_float (object others) ≡ false → has_float (object (file_member file others)) ≡ false
no_float_file None others h = h
no_float_file (Some file) others h = h

pub no_float : (file : Option (List ℕ)) (i : Problem) (hard : Hard) (cost : Cost) (lawful complete : Bool) → has_float (data_of file i hard cost lawful complete) ≡ false
unfolding data_of members_behind
no_float file i hard cost lawful complete =
    no_float_before (has_barred i) (has_blocked i) hard cost complete (file_member file (members_behind i.name hard cost lawful)) (no_float_file file (members_behind i.name hard cost lawful) refl)

pub no_float_explained : (found : Data) → has_float found ≡ false → (file : Option (List ℕ)) (i : Problem) (hard : Hard) (cost : Cost) (lawful complete : Bool) → has_float (explained_data_of found file i hard cost lawful complete) ≡ false
unfolding explained_data_of members_behind
no_float_explained found plain file i hard cost lawful complete =
    let rest = member (codes "findings") found (members_behind i.name hard cost lawful) in
    no_float_before (has_barred i) (has_blocked i) hard cost complete (file_member file rest) (no_float_file file rest (ap (λ b. b || false) plain))

-- a list that grows at its end
pub grows : {X : Type 0} (start old new so_far more : List X) → new ≡ old ++ more → old ≡ start ++ so_far → new ≡ start ++ (so_far ++ more)
grows start old new so_far more e was = e ∙ ap (λ xs. xs ++ more) was ∙ append_assoc start so_far more

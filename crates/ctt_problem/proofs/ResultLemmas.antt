-- Results: a value and a fault differ, and both constructors are injective.
use Rattle.std.proofs.Common.{◌≡◌, Result, Ok, Err}

-- a value and a fault differ, and both constructors are injective
pub ok_is_err : {A F : Type 0} (C : Type 0) (a : A) (e : F) → ◌≡◌ {A = Result A F} (Ok a) (Err e) → C
ok_is_err C a e h = cc

pub err_is_ok : {A F : Type 0} (C : Type 0) (a : A) (e : F) → ◌≡◌ {A = Result A F} (Err e) (Ok a) → C
err_is_ok C a e h = cc

pub ok_same : {A F : Type 0} (a b : A) → ◌≡◌ {A = Result A F} (Ok a) (Ok b) → a ≡ b
ok_same a b h = cc

pub err_same : {A F : Type 0} (a b : F) → ◌≡◌ {A = Result A F} (Err a) (Err b) → a ≡ b
err_same a b h = cc

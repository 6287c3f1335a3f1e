-- An optional room or course as one number.
use Rattle.std.specs.Prelude.{◌≡◌, ℕ, zero, suc, Option, Some, None, refl}

-- the optional room or course of a code: none for 0, otherwise the number before the code
abbrev pub room_by_code : ℕ → Option ℕ
room_by_code zero = None
room_by_code (suc room) = Some room

abbrev pub code_of_room : Option ℕ → ℕ
code_of_room None = zero
code_of_room (Some room) = suc room

pub code_again : (code : ℕ) → code_of_room (room_by_code code) ≡ code
code_again zero = refl
code_again (suc room) = refl

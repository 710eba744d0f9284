-- How the logic stores what loads gave.
use Rattle.std.specs.Prelude.{◌≡◌, ℕ, ◌==◌, List, [], cond, refl}
use Rattle.std.specs.Coded.{Coded, code_by, coded×, coded_ℕ, coded_list}
use Rattle.meaning_outside.specs.Loads.{Given, Whole, Missing, TooLong, Failed, NoMemory, Loaded}

-- a number that says what was given, and the bytes of a whole file
abbrev number_and_bytes : Given → ℕ × List ℕ
number_and_bytes (Whole bytes) = (0, bytes)
number_and_bytes Missing = (1, [])
number_and_bytes TooLong = (2, [])
number_and_bytes Failed = (3, [])
number_and_bytes NoMemory = (4, [])

abbrev given_from : ℕ × List ℕ → Given
given_from (number, bytes) =
    cond (number == 0) (Whole bytes) (cond (number == 1) Missing (cond (number == 2) TooLong (cond (number == 3) Failed NoMemory)))

pub given_from-number_and_bytes : (given : Given) → given_from (number_and_bytes given) ≡ given
given_from-number_and_bytes (Whole bytes) = refl
given_from-number_and_bytes Missing = refl
given_from-number_and_bytes TooLong = refl
given_from-number_and_bytes Failed = refl
given_from-number_and_bytes NoMemory = refl

abbrev pub given_code : Coded Given
given_code =
    code_by (ℕ × List ℕ) (coded× coded_ℕ (coded_list coded_ℕ)) number_and_bytes given_from given_from-number_and_bytes

-- a load is stored as its fields
abbrev pub loaded_code : Coded Loaded
loaded_code =
    code_by (List ℕ × (ℕ × Given)) (coded× (coded_list coded_ℕ) (coded× coded_ℕ given_code))
    (λ load. (load.path, (load.most, load.given)))
    (λ fields. record { path = fields.0; most = fields.1.0; given = fields.1.1 })
    (λ _. refl)

abbrev pub loads_code : Coded (List Loaded)
loads_code = coded_list loaded_code

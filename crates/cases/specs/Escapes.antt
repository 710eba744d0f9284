-- What an escaped text stands for: a step for each byte, and the bytes of all steps in order.
use Rattle.std.specs.Prelude.{ℕ, ◌+◌, ◌-◌, ◌*◌, Bool, true, false, ◌&&◌, ◌==◌, nat_le, List, [], ◌∷◌, ◌++◌, Option, Some, None, replicate, if◌then◌else◌}
use Rattle.cases.specs.declared.escapes.State.{State}
use Rattle.cases.specs.declared.escapes.State.TheVariants.{Outside, Backslash, End, Hexadecimal, Digit, Count, Times}
use Rattle.cases.specs.declared.escapes.Step.{Step}

-- the byte stands there so many times, and no escape is begun
abbrev pub puts : ℕ → ℕ → Option Step
puts byte times = Some (record { state = Outside; byte = byte; times = times })

-- nothing stands there yet
abbrev pub goes : State → Option Step
goes state = Some (record { state = state; byte = 0; times = 0 })

abbrev pub is_decimal : ℕ → Bool
is_decimal b = nat_le 48 b && nat_le b 57

-- the value of one of 0 to 9 and A to F
abbrev pub digit_of : ℕ → Option ℕ
digit_of b = if is_decimal b then Some (b - 48) else if nat_le 65 b && nat_le b 70 then Some (b - 55) else None

-- the byte with two hexadecimal digits
abbrev pub byte_of : Option ℕ → Option ℕ → Option Step
byte_of None low = None
byte_of (Some high) None = None
byte_of (Some high) (Some low) = puts (high * 16 + low) 1

-- behind a backslash: \0, \r, \\, \x, \*, or a last new-line
abbrev pub begun_at : ℕ → Option Step
begun_at b =
    if b == 48 then puts 0 1
    else if b == 114 then puts 13 1
    else if b == 92 then puts 92 1
    else if b == 120 then goes Hexadecimal
    else if b == 42 then goes (Count 0)
    else if b == 10 then goes End
    else None

-- a decimal digit more of a number that isn't too large
abbrev pub counted : ℕ → ℕ → Option Step
counted n b = if is_decimal b && nat_le n 999999 then goes (Count (n * 10 + (b - 48))) else None

-- what the byte gives there, if anything
abbrev pub step_of : State → ℕ → Option Step
step_of Outside b = if b == 92 then goes Backslash else puts b 1
step_of Backslash b = begun_at b
step_of End b = None
step_of Hexadecimal b = goes (Digit b)
step_of (Digit high) b = byte_of (digit_of high) (digit_of b)
step_of (Count n) b = if b == 42 then goes (Times n) else counted n b
step_of (Times n) b = puts b n

-- a text may end outside of an escape and behind a last backslash
abbrev pub may_end : State → Bool
may_end Outside = true
may_end Backslash = true
may_end End = true
may_end Hexadecimal = false
may_end (Digit high) = false
may_end (Count n) = false
may_end (Times n) = false

abbrev pub prepend : List ℕ → Option (List ℕ) → Option (List ℕ)
prepend front None = None
prepend front (Some rest) = Some (front ++ rest)

-- what stands behind a step, if there is one, given what stands behind each state
abbrev pub behind_step : Option Step → (State → Option (List ℕ)) → Option (List ℕ)
behind_step None later = None
behind_step (Some step) later = prepend (replicate step.times step.byte) (later step.state)

-- the bytes that a text stands for from there, if each of its bytes gives a step
abbrev pub unescaped_from : State → List ℕ → Option (List ℕ)
unescaped_from state [] = if may_end state then Some [] else None
unescaped_from state (b ∷ bs) = behind_step (step_of state b) (λ next. unescaped_from next bs)

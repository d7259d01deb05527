-- What is written into a buffer.
use Rattle.std.specs.Prelude.{◌≡◌, ℕ, ◌+◌, ◌<◌, ◌≤◌, List, ◌++◌, length, take, drop, Some, None, Ok, Err, Option, Result}

-- the buffer with these bytes in it from place `at` on, and the others as they were
abbrev pub pasted : ℕ → List ℕ → List ℕ → List ℕ
pasted at bytes out = take at out ++ (bytes ++ drop (at + length bytes) out)

-- what is left of a room behind so many bytes, or nothing where it is too small
abbrev pub Leaves : ℕ → ℕ → Option ℕ → Type 0
Leaves bytes room (Some left) = room ≡ bytes + left
Leaves bytes room None = room < bytes

-- bytes that are due from place `at` on: they are written, and the answer is the place behind them,
-- or the buffer is too short for them and stays as it was
abbrev pub Writes : ℕ → List ℕ → List ℕ → List ℕ → Option ℕ → Type 0
Writes at bytes before after (Some end) =
    (after ≡ pasted at bytes before) × (end ≡ at + length bytes) × (end ≤ length before)
Writes at bytes before after None = (after ≡ before) × (length before < at + length bytes)

-- the same of a text at place `at`: it goes on behind the bytes, or stays where it was
abbrev pub Moves : ℕ → List ℕ → List ℕ → List ℕ → Result ℕ ℕ → Type 0
Moves at bytes before after (Ok end) =
    (after ≡ pasted at bytes before) × (end ≡ at + length bytes) × (end ≤ length before)
Moves at bytes before after (Err same) = (same ≡ at) × (after ≡ before) × (length before < at + length bytes)

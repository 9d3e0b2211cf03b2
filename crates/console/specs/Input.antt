-- What reading a program's input answers. Which bytes are read is up to the system. Assumes nothing.
use Rattle.std.specs.Prelude.{List, ℕ, ◌≡◌, ◌≤◌, length, take}
use Rattle.std.specs.Prelude.{Option, Some, None}

-- A text lies at the front of the buffer.
abbrev pub InBuffer : Option ℕ → List ℕ → Type 0
InBuffer (Some n) buffer = (n ≤ length buffer) × (n ≡ length (take n buffer))
InBuffer None buffer = Unit {0}

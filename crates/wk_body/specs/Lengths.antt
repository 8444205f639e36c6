-- Lengths, which are told up to the most bytes of a module.
use Rattle.std.specs.Prelude.{◌≡◌, ℕ, ◌+◌, nat_le, if◌then◌else◌, Option, Some, None}

-- a length, or nothing past the limit
abbrev pub limited : ℕ → Option ℕ
limited n = if nat_le n 2147483647 then Some n else None

-- from the one length to the other that many bytes come, where nothing stands for a length past the limit
abbrev pub GrowsBy : ℕ → Option ℕ → Option ℕ → Type 0
GrowsBy more old new = (n : ℕ) → old ≡ limited n → new ≡ limited (n + more)

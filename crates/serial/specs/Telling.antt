-- What a code and up to three numbers tell. Assumes nothing.
use Rattle.std.specs.Prelude.{◌≡◌, ℕ, ◌<◌, ◌≤◌, ◌⊎◌, ◌↔◌}
use Rattle.serial.specs.declared.queue.Numbers.{Numbers}

-- number n, which is not 0, stands in one of the three fields
abbrev pub Names : Numbers → ℕ → Type 0
Names x n = (1 ≤ n) × ((x.first ≡ n) ⊎ (x.second ≡ n) ⊎ (x.third ≡ n))

-- oldest first, from the first field on, zeros after
pub record InOrder (x : Numbers) : Type 0 where
  pub second : 1 ≤ x.second → (1 ≤ x.first) × (x.first < x.second)
  pub third : 1 ≤ x.third → (1 ≤ x.second) × (x.second < x.third)

-- a code and three fields tell exactly what happened, where Happened n f says that f happened to number n:
-- who is named with which code is whom it happened to, nobody else is named,
-- the code is `nothing` where it happened to nobody, and the numbers are in order
pub record Tells {F C : Type 0} (code_of : F → C) (nothing : C) (Happened : ℕ → F → Type 0) (code : C) (x : Numbers) : Type 0 where
  pub told : (n : ℕ) (f : F) → Happened n f ↔ (Names x n × (code ≡ code_of f))
  pub named : (n : ℕ) → Names x n → (f : F) × Happened n f
  pub quiet : ((n : ℕ) (f : F) → Happened n f → ⊥) → code ≡ nothing
  pub in_order : InOrder x

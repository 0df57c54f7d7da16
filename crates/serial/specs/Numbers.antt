-- Cases of an enum by their numbers. Assumes nothing.
use Rattle.std.specs.Prelude.{◌≡◌, ℕ, List, Some, Option, ◌==◌}
use Rattle.std.specs.List.{find}

-- the first of the cases that has the number n
abbrev pub numbered : {X : Type 0} → (X → ℕ) → List X → ℕ → Option X
numbered number xs n = find (λ x. number x == n) xs

-- the number of a case leads back to it, and what a number leads to has that number
abbrev pub Inverse : {X : Type 0} → (X → ℕ) → (ℕ → Option X) → Type 0
Inverse {X} number find = ((x : X) → find (number x) ≡ Some x) × ((n : ℕ) (x : X) → find n ≡ Some x → number x ≡ n)

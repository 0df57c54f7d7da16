-- What contracts see of the receiver. Assumes nothing.
use Rattle.std.specs.Prelude.{ℕ, Bool}
use Rattle.ssda.specs.declared.receiver.Phase.{Phase}

-- the phase, the bits counted toward a character, the last nine bits, whether the sync match shows, and how many characters are framed
pub record Reception : Type 0 where
  pub phase : Phase
  pub count : ℕ
  pub window : ℕ
  pub matched : Bool
  pub framed : ℕ

-- Things that are numbered from 1 on as they come, and each of which goes on until it meets one end. Assumes nothing.
-- Moment k lies after the first k acts; act k happens between moments k and k + 1.
use Rattle.std.specs.Prelude.{◌≡◌, ℕ, ◌<◌, ◌≤◌, ◌⊎◌}

-- before moment k thing n met an end
pub record Gone {F : Type 0} (Ends : ℕ → ℕ → F → Type 0) (k n : ℕ) : Type 0 where
  pub when : ℕ
  pub before : when < k
  pub fate : F
  pub met : Ends when n fate

-- of the things that were counted by moment k, and of no others, each has met exactly one end, or goes on in exactly one way
pub record OneFate {F W : Type 0} (count : ℕ) (Goes : ℕ → W → Type 0) (Ends : ℕ → ℕ → F → Type 0) (k : ℕ) : Type 0 where
  pub each : (n : ℕ) → 1 ≤ n → n ≤ count → Gone Ends k n ⊎ ((w : W) × Goes n w)
  pub ended_counted : (n : ℕ) → Gone Ends k n → (1 ≤ n) × (n ≤ count)
  pub going_counted : (n : ℕ) (w : W) → Goes n w → (1 ≤ n) × (n ≤ count)
  pub not_both : (n : ℕ) (w : W) → Gone Ends k n → Goes n w → ⊥
  pub one_end : (n : ℕ) (g h : Gone Ends k n) → (g.when ≡ h.when) × (g.fate ≡ h.fate)
  pub one_way : (n : ℕ) (v w : W) → Goes n v → Goes n w → v ≡ w

-- it happens to one thing at a time, and in rising numbers
pub record Rising (Happens : ℕ → ℕ → Type 0) : Type 0 where
  pub one_at_a_time : (k m n : ℕ) → Happens k m → Happens k n → m ≡ n
  pub rising : (i j m n : ℕ) → i < j → Happens i m → Happens j n → m < n

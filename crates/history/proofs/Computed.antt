-- The rules of both lines, computed. Assumes nothing.
use Rattle.std.proofs.Common.{ℕ, zero, suc, ◌+◌, Bool, false, cond, not, ◌&&◌, ltb, Some, None, Option}
use Rattle.history.specs.Events.{received, clocks}
use Rattle.history.specs.Settings.{History, external, off, held, one_sync}
use Rattle.history.specs.Lines.{limit, T, Phase, searching, one_sync_seen, in_sync, first, restarts, Match, Sending, still, starting, showing}

-- the phase and the count after a bit: m where the last bits match, o where one sync code is asked for, t bits to a character
abbrev pub fed : Phase → ℕ → Bool → Bool → ℕ → Phase × ℕ
fed searching n m o t = (cond m (cond o (in_sync 0) (one_sync_seen 0)) searching, n)
fed (one_sync_seen j) n m o t = (cond (ltb (j + 1) t) (one_sync_seen (j + 1)) (cond m (in_sync 0) searching), n)
fed (in_sync j) n m o t = cond (ltb (j + 1) t) (in_sync (j + 1), n) (in_sync 0, n + 1)

-- whether the receiver takes this bit, if it is one: o where it is off, n characters being framed
abbrev pub takes : Option ℕ → Bool → ℕ → Bool
takes None o n = false
takes (Some b) o n = not o && ltb n limit

-- one event further, and at each moment
abbrev pub next_phase : History → ℕ → Phase × ℕ → Phase × ℕ
next_phase E k x = cond (restarts E k) (first (external E (suc k)), x.1) (cond (takes (received (E k)) (off E k) x.1) (fed x.0 x.1 (Match E k) (one_sync E k) (T E k)) x)

abbrev pub phase_at : History → ℕ → Phase × ℕ
phase_at E zero = (searching, 0)
phase_at E (suc k) = next_phase E k (phase_at E k)

-- the transmitter after a clock at event k
abbrev pub clocked : History → ℕ → Sending → Sending
clocked E k still = still
clocked E k starting = showing k 0
clocked E k (showing l j) = cond (ltb (j + 1) (T E l)) (showing l (j + 1)) (showing k 0)

-- one event further, and at each moment
abbrev pub next_sending : History → ℕ → Sending → Sending
next_sending E k s = cond (held E (suc k)) still (cond (held E k) starting (cond (clocks (E k)) (clocked E k s) s))

abbrev pub sending_at : History → ℕ → Sending
sending_at E zero = still
sending_at E (suc k) = next_sending E k (sending_at E k)

-- The two lines over a history: which characters are framed, which bytes are written, when words are loaded.
-- No queue is looked at. Assumes nothing.
use Rattle.std.specs.Prelude.{◌≡◌, ℕ, zero, suc, ◌+◌, ◌<◌, ◌≤◌, Bool, true, false, cond, not, ◌&&◌, ◌||◌, List, [], ◌∷◌, Some, None, Option, nat_lt}
use Rattle.std.specs.Bool.{beq}
use Rattle.serial.specs.Words.{total_bits, read_of, mark_of, matches}
use Rattle.history.specs.Events.{received, clocks}
use Rattle.history.specs.Settings.{History, to_data, form, sync_code, strip_sync, one_sync, external, off, held}

-- neither line takes more than this many: a received bit is declined once so many are framed, so what later bits would do to the
-- window (`ago` below goes on with them) can never be observed
abbrev pub limit : ℕ
limit = 16000000

-- RECEIVING

-- event k restarts the receiver: it is on after it, and was off before or has another way of finding sync. Only a write to C3 changes
-- external and leaves the receiver on; RESET falling changes it too, and switches the receiver off.
abbrev pub restarts : History → ℕ → Bool
restarts E k = not (off E (suc k)) && (off E k || not (beq (external E k) (external E (suc k))))

abbrev pub pushed : Option ℕ → (ℕ → ℕ) → ℕ → ℕ
pushed None older i = older i
pushed (Some b) older zero = b
pushed (Some b) older (suc i) = older i

-- the bit that came in i bits before the newest, at moment k: one before any came since the restart
abbrev pub ago : History → ℕ → ℕ → ℕ
ago E zero i = 1
ago E (suc k) i = cond (restarts E k) 1 (cond (off E k) (ago E k i) (pushed (received (E k)) (ago E k) i))

-- the last t bits at moment k, oldest first
abbrev pub last_bits : History → ℕ → ℕ → List ℕ
last_bits E k zero = []
last_bits E k (suc t) = ago E k t ∷ last_bits E k t

-- how many bits make a character at moment k
abbrev pub T : History → ℕ → ℕ
T E k = total_bits (form E k)

-- the last bits after event k match the sync code
abbrev pub Match : History → ℕ → Bool
Match E k = matches (form E k) (sync_code E k) (last_bits E (suc k) (T E k))

pub data Phase : Type 0 where
  searching : Phase
  one_sync_seen : ℕ → Phase
  in_sync : ℕ → Phase

abbrev pub first : Bool → Phase
first true = in_sync 0
first false = searching

-- event k is a received bit that the receiver takes, n characters being framed
pub record Bit (E : History) (k n : ℕ) : Type 0 where
  pub bit : ℕ
  pub came : received (E k) ≡ Some bit
  pub on : off E k ≡ false
  pub room : n < limit

-- how the receiver comes to be in a phase with n characters framed, by event k, where S says how it was before
pub data Goes (E : History) (k : ℕ) (S : Phase → ℕ → Type 0) (phase : Phase) (n : ℕ) : Type 0 where
  -- by no bit: a restart; or nothing that concerns the receiver
  restarted : (p : Phase) → S p n → restarts E k ≡ true → phase ≡ first (external E (suc k)) → Goes E k S phase n
  untouched : S phase n → restarts E k ≡ false → (Bit E k n → ⊥) → Goes E k S phase n
  -- by a bit in search: no match; the only sync code that is asked for; the first of two
  no_sync : S searching n → Bit E k n → Match E k ≡ false → phase ≡ searching → Goes E k S phase n
  only_sync : S searching n → Bit E k n → Match E k ≡ true → one_sync E k ≡ true → phase ≡ in_sync 0 → Goes E k S phase n
  first_sync : S searching n → Bit E k n → Match E k ≡ true → one_sync E k ≡ false → phase ≡ one_sync_seen 0 → Goes E k S phase n
  -- by a bit after one sync code: not yet a character's end; at the end the second sync code; at the end something else
  toward_second : (j : ℕ) → S (one_sync_seen j) n → Bit E k n → j + 1 < T E k → phase ≡ one_sync_seen (j + 1) → Goes E k S phase n
  second_sync : (j : ℕ) → S (one_sync_seen j) n → Bit E k n → T E k ≤ j + 1 → Match E k ≡ true → phase ≡ in_sync 0 → Goes E k S phase n
  no_second : (j : ℕ) → S (one_sync_seen j) n → Bit E k n → T E k ≤ j + 1 → Match E k ≡ false → phase ≡ searching → Goes E k S phase n
  -- by a bit in sync: not yet a character's end; at the end one more character is framed
  counted : (j : ℕ) → S (in_sync j) n → Bit E k n → j + 1 < T E k → phase ≡ in_sync (j + 1) → Goes E k S phase n
  character : (j m : ℕ) → S (in_sync j) m → Bit E k m → T E k ≤ j + 1 → phase ≡ in_sync 0 → n ≡ m + 1 → Goes E k S phase n

-- at moment k the receiver is in this phase, and n characters are framed
abbrev pub Receiver : History → ℕ → Phase → ℕ → Type 0
Receiver E zero phase n = (phase ≡ searching) × (n ≡ 0)
Receiver E (suc k) phase n = Goes E k (Receiver E k) phase n

-- n characters are framed at moment k
abbrev pub Framed : History → ℕ → ℕ → Type 0
Framed E k n = (phase : Phase) × Receiver E k phase n

-- event k frames character n: its bit is the last of as many as make a character, and one fewer were framed before
pub record Frames (E : History) (k n : ℕ) : Type 0 where
  pub before : ℕ
  pub counted : ℕ
  pub phase : Receiver E k (in_sync counted) before
  pub bit : Bit E k before
  pub full : T E k ≤ counted + 1
  pub next : n ≡ before + 1

-- the character that event k frames: its byte, its parity mark, and whether it is stripped
abbrev pub byte_framed : History → ℕ → ℕ
byte_framed E k = (read_of (form E k) (last_bits E (suc k) (T E k))).0

abbrev pub mark_framed : History → ℕ → Bool
mark_framed E k = mark_of (form E k) (last_bits E (suc k) (T E k))

abbrev pub strips : History → ℕ → Bool
strips E k = strip_sync E k && Match E k

-- SENDING

abbrev pub one_more : Option ℕ → ℕ → ℕ
one_more None n = n
one_more (Some b) n = cond (nat_lt n limit) (n + 1) n

-- how many bytes were written to transmit data by moment k
abbrev pub written : History → ℕ → ℕ
written E zero = 0
written E (suc k) = one_more (to_data E k) (written E k)

-- event k writes byte number n, which is b
pub record Writes (E : History) (k n b : ℕ) : Type 0 where
  pub byte : to_data E k ≡ Some b
  pub room : written E k < limit
  pub next : n ≡ written E k + 1

-- the transmitter is held; or it starts; or of the word that event l loaded, j bits were shown
pub data Sending : Type 0 where
  still : Sending
  starting : Sending
  showing : ℕ → ℕ → Sending

-- the transmit clock at event k loads a word, where S says how the transmitter was before
pub data LoadsFrom (E : History) (k : ℕ) (S : Sending → Type 0) : Type 0 where
  first_word : clocks (E k) ≡ true → S starting → LoadsFrom E k S
  next_word : (l j : ℕ) → clocks (E k) ≡ true → S (showing l j) → j + 1 ≡ T E l → LoadsFrom E k S

-- how the transmitter comes to be so by event k, where S says how it was before
pub data Turns (E : History) (k : ℕ) (S : Sending → Type 0) (s : Sending) : Type 0 where
  holds : held E (suc k) ≡ true → s ≡ still → Turns E k S s
  released : held E k ≡ true → held E (suc k) ≡ false → s ≡ starting → Turns E k S s
  untouched : S s → held E k ≡ false → held E (suc k) ≡ false → clocks (E k) ≡ false → Turns E k S s
  loaded : LoadsFrom E k S → s ≡ showing k 0 → Turns E k S s
  shown : (l j : ℕ) → S (showing l j) → clocks (E k) ≡ true → j + 1 < T E l → s ≡ showing l (j + 1) → Turns E k S s

-- the transmitter at moment k
abbrev pub Transmitter : History → ℕ → Sending → Type 0
Transmitter E zero s = s ≡ still
Transmitter E (suc k) s = Turns E k (Transmitter E k) s

-- event k loads a word
abbrev pub Loads : History → ℕ → Type 0
Loads E k = LoadsFrom E k (Transmitter E k)

-- The last nine bits as a number: how it goes on by each event, and that its upper bits are the last bits of a character. Assumes nothing.
use Rattle.std.proofs.Common.{◌≡◌, ℕ, zero, suc, ◌+◌, ◌-◌, ◌*◌, ◌/◌, ◌^◌, ◌<◌, Bool, true, false, cond, [], ◌∷◌, ◌++◌, length, Some, None, Option, sym, refl, ap, ◌∙◌, ap₂, arith, lit<}
use Rattle.std.proofs.lemmas.Bool.Decides.{nat_tests}
use Rattle.serial.specs.declared.event.Event.{Event}
use Rattle.serial.specs.declared.word.Form.{Form}
use Rattle.serial.specs.Words.{bits_of, value_of, total_bits}
use Rattle.serial.proofs.Bits.{Bits, none, more, bits_value, value_push}
use Rattle.history.specs.Events.{received}
use Rattle.history.specs.Settings.{History, off}
use Rattle.history.specs.Lines.{restarts, pushed, ago, last_bits}

-- the last nine bits at moment k, the oldest lowest
abbrev pub window : History → ℕ → ℕ
window E k = value_of (last_bits E k 9)

-- a received bit is 0 or 1
received_below : (e : Event) (b : ℕ) → received e ≡ Some b → b < 2
received_below e b h = grind (arith, nat_tests)

-- so is every bit that came in, and those before any came
ago_below : (E : History) (k i : ℕ) → ago E k i < 2
ago_below E zero i = lit< tt
ago_below E (suc k) i = go (restarts E k) (off E k) (received (E k)) refl i (ago_below E k)
  where
    go : (r o : Bool) (x : Option ℕ) → received (E k) ≡ x → (i : ℕ) → ((j : ℕ) → ago E k j < 2) → cond r 1 (cond o (ago E k i) (pushed x (ago E k) i)) < 2
    go true o x e i h = lit< tt
    go false true x e i h = h i
    go false false None e i h = h i
    go false false (Some b) e zero h = received_below (E k) b e
    go false false (Some b) e (suc j) h = h j

-- the last bits are bits, as many as were asked for
last_are_bits : (E : History) (k t : ℕ) → Bits (last_bits E k t)
last_are_bits E k zero = none
last_are_bits E k (suc t) = more (ago_below E k t) (last_are_bits E k t)

length_last : (E : History) (k t : ℕ) → length (last_bits E k t) ≡ t
length_last E k zero = refl
length_last E k (suc t) = ap suc (length_last E k t)

-- each bit that came in, by each event
module _ (E : History) (k : ℕ) where
  ago_ones : restarts E k ≡ true → (i : ℕ) → ago E (suc k) i ≡ 1
  ago_ones r i = grind arith

  ago_off : restarts E k ≡ false → off E k ≡ true → (i : ℕ) → ago E (suc k) i ≡ ago E k i
  ago_off r o i = grind arith

  ago_none : restarts E k ≡ false → received (E k) ≡ None → (i : ℕ) → ago E (suc k) i ≡ ago E k i
  ago_none r e i = grind arith

  ago_pushed : (b : ℕ) → restarts E k ≡ false → off E k ≡ false → received (E k) ≡ Some b → (i : ℕ) → ago E (suc k) i ≡ pushed (Some b) (ago E k) i
  ago_pushed b r o e i = grind arith

-- where no bit changes, the last bits don't
last_same : (E : History) (j k t : ℕ) → ((i : ℕ) → ago E j i ≡ ago E k i) → last_bits E j t ≡ last_bits E k t
last_same E j k zero h = refl
last_same E j k (suc t) h = ap₂ ◌∷◌ (h t) (last_same E j k t h)

-- a bit that comes in follows the others
last_pushed : (E : History) (k b t : ℕ) → ((i : ℕ) → ago E (suc k) i ≡ pushed (Some b) (ago E k) i) → last_bits E (suc k) (suc t) ≡ last_bits E k t ++ b ∷ []
last_pushed E k b zero h = ap (λ x. x ∷ []) (h 0)
last_pushed E k b (suc t) h = ap₂ ◌∷◌ (h (suc t)) (last_pushed E k b t h)

-- without its oldest bit the number is half as large
value_half : (E : History) (k t : ℕ) → value_of (last_bits E k (suc t)) / 2 ≡ value_of (last_bits E k t)
value_half E k t = let h = ago_below E k t in omega arith

-- at first, and when the receiver restarts, all nine are ones
pub window_first : (E : History) → window E 0 ≡ 511
window_first E = refl

pub window_ones : (E : History) (k : ℕ) → restarts E k ≡ true → window E (suc k) ≡ 511
window_ones E k r = ap value_of (last_same E (suc k) 0 9 (ago_ones E k r))

-- while the receiver is off, and where no bit comes, they stay
pub window_off : (E : History) (k : ℕ) → restarts E k ≡ false → off E k ≡ true → window E (suc k) ≡ window E k
window_off E k r o = ap value_of (last_same E (suc k) k 9 (ago_off E k r o))

pub window_none : (E : History) (k : ℕ) → restarts E k ≡ false → received (E k) ≡ None → window E (suc k) ≡ window E k
window_none E k r e = ap value_of (last_same E (suc k) k 9 (ago_none E k r e))

-- a bit that comes in goes on top, and the oldest falls out
pub window_slides : (E : History) (k b : ℕ) → restarts E k ≡ false → off E k ≡ false → received (E k) ≡ Some b → window E (suc k) ≡ window E k / 2 + b * 256
window_slides E k b r o e =
    ap value_of (last_pushed E k b 8 (ago_pushed E k b r o e)) ∙ value_push (last_bits E k 8) b ∙ ap (λ x. x + b * 256) (sym (value_half E k 8))

-- the last t bits are the bits of the number that they stand for
last_bits_of : (E : History) (k t : ℕ) → bits_of t (value_of (last_bits E k t)) ≡ last_bits E k t
last_bits_of E k t = ap (λ n. bits_of n (value_of (last_bits E k t))) (sym (length_last E k t)) ∙ bits_value (last_bits E k t) (last_are_bits E k t)

seven : (E : History) (k : ℕ) → bits_of 7 (window E k / 4) ≡ last_bits E k 7
seven E k = ap (bits_of 7) (omega (arith, value_half E k 8, value_half E k 7)) ∙ last_bits_of E k 7

eight : (E : History) (k : ℕ) → bits_of 8 (window E k / 2) ≡ last_bits E k 8
eight E k = ap (bits_of 8) (value_half E k 8) ∙ last_bits_of E k 8

nine : (E : History) (k : ℕ) → bits_of 9 (window E k / 1) ≡ last_bits E k 9
nine E k = ap (bits_of 9) (omega arith) ∙ last_bits_of E k 9

-- the last bits of a character, as many as it has, are the upper ones of the nine
pub window_word : (E : History) (k : ℕ) (f : Form) → bits_of (total_bits f) (window E k / 2 ^ (9 - total_bits f)) ≡ last_bits E k (total_bits f)
window_word E k f = grind (arith, seven E k, eight E k, nine E k)

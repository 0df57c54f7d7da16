-- How a word comes to be shown: by its load, as before, or by a clock that shows one bit more. Assumes nothing.
use Rattle.std.proofs.Common.{◌≡◌, ℕ, zero, suc, ◌+◌, ◌<◌, true, false, sym, ◌∙◌, subst, arith}
use Rattle.history.specs.Events.{clocks}
use Rattle.history.specs.Settings.{History, held}
use Rattle.history.specs.Lines.{T, Sending, still, starting, showing, holds, released, untouched, loaded, shown, Transmitter, Loads}
use Rattle.history.specs.Law.{Shifts, Shown, Does, shows_a_bit, shows_the_last, cuts_it_off}
use Rattle.history.proofs.OneState.{Good, good_at, transmitter_is}

-- a state in which a word is shown
abbrev pub IsShowing : Sending → Type 0
IsShowing still = ⊥
IsShowing starting = ⊥
IsShowing (showing l j) = Unit {0}

module _ (E : History) where
  -- the three ways in which j bits of the word of load l come to be shown by event k
  pub data Came (k l j : ℕ) : Type 0 where
    by_load : Loads E k → l ≡ k → j ≡ 0 → Came k l j
    as_before : Transmitter E k (showing l j) → clocks (E k) ≡ false → Came k l j
    by_clock : (i : ℕ) → Transmitter E k (showing l i) → clocks (E k) ≡ true → j ≡ suc i → Came k l j

  pub came : (k l j : ℕ) → Transmitter E (suc k) (showing l j) → Came k l j
  came k l j (holds h e) = cc
  came k l j (released h i e) = cc
  came k l j (untouched s h i c) = as_before s c
  came k l j (loaded x e) = by_load x (cc) (cc)
  came k l j (shown m i s c h e) =
      let a : m ≡ l = cc in let b : j ≡ i + 1 = cc in
      let P : ℕ → Type 0 = λ x. Transmitter E k (showing x i) in
      by_clock i (subst P a s) c (omega (arith, b))

  -- at first none is shown
  pub none_shown : {A : Type 0} (l j : ℕ) → Transmitter E 0 (showing l j) → A
  none_shown l j h = cc

  -- a word is shown after its load
  pub earlier : (k l j : ℕ) → Transmitter E k (showing l j) → l < k
  earlier zero l j h = none_shown l j h
  earlier (suc k) l j h = go (came k l j h) (λ i t. earlier k l i t)
    where
      go : Came k l j → ((i : ℕ) → Transmitter E k (showing l i) → l < k) → l < suc k
      go (by_load x e z) ih = omega (arith, e)
      go (as_before s c) ih = omega (arith, ih j s)
      go (by_clock i s c e) ih = omega (arith, ih i s)

  -- the transmitter is not held then, and fewer bits were shown than the word has
  pub word : (k l j : ℕ) → Transmitter E k (showing l j) → (held E k ≡ false) × (j < T E l)
  word k l j h = subst (Good E k) (sym (transmitter_is E k (showing l j) h)) (good_at E k)

  -- at one moment one word is shown, with one count of bits
  pub same_word : (k l j m i : ℕ) → Transmitter E k (showing l j) → Transmitter E k (showing m i) → (l ≡ m) × (j ≡ i)
  same_word k l j m i h g = let e : showing l j ≡ showing m i = transmitter_is E k _ h ∙ sym (transmitter_is E k _ g) in (cc, cc)

  -- and none while the transmitter is held or starts
  pub no_word : {A : Type 0} (k l j : ℕ) (s : Sending) → (IsShowing s → ⊥) → Transmitter E k s → Transmitter E k (showing l j) → A
  no_word k l j s f h t = absurd (f (subst IsShowing (transmitter_is E k _ t ∙ sym (transmitter_is E k _ h)) tt))

  -- what is done by a clock or a cut is done to the byte that is being shifted
  pub shifted : (k n : ℕ) (s : Shown) → Does E k n s → (l j : ℕ) × Shifts E k n l j
  shifted k n s (shows_a_bit l j x c h) = (l, j, x)
  shifted k n s (shows_the_last l j x c h) = (l, j, x)
  shifted k n s (cuts_it_off l j x c) = (l, j, x)

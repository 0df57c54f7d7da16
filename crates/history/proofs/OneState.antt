-- The rules of sending lead to exactly one state of the transmitter at each moment. Assumes nothing.
use Rattle.std.proofs.Common.{◌≡◌, ℕ, zero, suc, ◌+◌, ◌<◌, Bool, true, false, cond, ltb, sym, refl, ap, ◌∙◌, subst, arith}
use Rattle.std.proofs.lemmas.Bool.Decides.{nat_tests}
use Rattle.std.proofs.lemmas.Bool.{ltb-true, ltb-false, lt-ltb, le-ltb}
use Rattle.serial.specs.declared.word.Form.{Form}
use Rattle.serial.specs.Words.{total_bits}
use Rattle.history.specs.Events.{clocks}
use Rattle.history.specs.Settings.{History, form, held}
use Rattle.history.specs.Lines.{T, Sending, still, starting, showing, LoadsFrom, first_word, next_word, Turns, holds, released, untouched, loaded, shown, Transmitter}
use Rattle.history.specs.Law.{One}
use Rattle.history.proofs.Apart.{calm_clock}
use Rattle.history.proofs.Calm.{held_same}
use Rattle.history.proofs.Computed.{clocked, next_sending, sending_at}

-- a word has bits
positive : (f : Form) → 0 < total_bits f
positive f = grind arith

-- what goes with each state
abbrev pub Good : History → ℕ → Sending → Type 0
Good E k still = held E k ≡ true
Good E k starting = held E k ≡ false
Good E k (showing l j) = (held E k ≡ false) × (j < T E l)

module _ (E : History) (k : ℕ) where
  -- the next state, by whether the transmitter is held after and before the event, and whether that is a clock
  pub next_by_lem : (s : Sending) (a b c : Bool) → held E (suc k) ≡ a → held E k ≡ b → clocks (E k) ≡ c → next_sending E k s ≡ cond a still (cond b starting (cond c (clocked E k s) s))
  next_by_lem s a b c e f g = grind arith

  -- what goes with a state goes with the next one
  good_clocked : (s : Sending) → held E (suc k) ≡ false → held E k ≡ false → Good E k s → Good E (suc k) (clocked E k s)
  good_clocked s h g i = grind (arith, nat_tests, positive (form E k))

  good_same : (s : Sending) → held E (suc k) ≡ false → held E k ≡ false → Good E k s → Good E (suc k) s
  good_same s h g i = grind arith

  good_next : (s : Sending) → Good E k s → (a : Bool) → held E (suc k) ≡ a → (b : Bool) → held E k ≡ b → (c : Bool) → clocks (E k) ≡ c → Good E (suc k) (cond a still (cond b starting (cond c (clocked E k s) s)))
  good_next s g a e b f c h = grind (arith, good_clocked s, good_same s)

  module _ (S : Sending → Type 0) where
    -- there is a next one

    -- from each state
    from_word : (l j : ℕ) → S (showing l j) → j < T E l → clocks (E k) ≡ true → (t : Bool) → ltb (j + 1) (T E l) ≡ t → Turns E k S (cond t (showing l (j + 1)) (showing k 0))
    from_word l j s g c true e = shown l j s c (ltb-true _ _ e) refl
    from_word l j s g c false e = let w = ltb-false _ _ e in loaded (next_word l j c s (omega (arith, g, w))) refl

    from_clock : (s : Sending) → S s → Good E k s → held E k ≡ false → clocks (E k) ≡ true → Turns E k S (clocked E k s)
    from_clock still s g h c = cc
    from_clock starting s g h c = loaded (first_word c s) refl
    from_clock (showing l j) s g h c = from_word l j s g.1 c (ltb (j + 1) (T E l)) refl

    next_turns : (s : Sending) → S s → Good E k s → (a : Bool) → held E (suc k) ≡ a → (b : Bool) → held E k ≡ b → (c : Bool) → clocks (E k) ≡ c → Turns E k S (cond a still (cond b starting (cond c (clocked E k s) s)))
    next_turns s h g true e b f c i = holds e refl
    next_turns s h g false e true f c i = released f e refl
    next_turns s h g false e false f true i = from_clock s h g f i
    next_turns s h g false e false f false i = untouched h f e i

    -- and no other

    -- a clock while the transmitter is not held
    clock_next : (s : Sending) → clocks (E k) ≡ true → held E k ≡ false → next_sending E k s ≡ clocked E k s
    clock_next s c h = next_by_lem s false false true (held_same E k (calm_clock (E k) c) ∙ h) h c

    module _ (s₀ : Sending) (good : Good E k s₀) (alone : (q : Sending) → S q → q ≡ s₀) where
      good_of : (q : Sending) → S q → Good E k q
      good_of q s = subst (Good E k) (sym (alone q s)) good

      via : (q s : Sending) → S q → s ≡ next_sending E k q → s ≡ next_sending E k s₀
      via q s h e = e ∙ ap (next_sending E k) (alone q h)

      by_load : (s : Sending) → LoadsFrom E k S → s ≡ showing k 0 → s ≡ next_sending E k s₀
      by_load s (first_word c h) e = via starting s h (e ∙ sym (clock_next starting c (good_of starting h)))
      by_load s (next_word l j c h t) e =
          via (showing l j) s h (e ∙ sym (clock_next (showing l j) c (good_of (showing l j) h).0 ∙ ap (λ b. cond b (showing l (j + 1)) (showing k 0)) (le-ltb _ _ (omega (arith, t)))))

      came : (s : Sending) → Turns E k S s → s ≡ next_sending E k s₀
      came s (holds h e) = e ∙ sym (next_by_lem s₀ true _ _ h refl refl)
      came s (released h i e) = e ∙ sym (next_by_lem s₀ false true _ i h refl)
      came s (untouched x h i c) = via s s x (sym (next_by_lem s false false false i h c))
      came s (loaded l e) = by_load s l e
      came s (shown l j x c h e) =
          via (showing l j) s x (e ∙ sym (clock_next (showing l j) c (good_of (showing l j) x).0 ∙ ap (λ b. cond b (showing l (j + 1)) (showing k 0)) (lt-ltb _ _ h)))

-- so it goes with the computed state, at every moment
pub good_at : (E : History) (k : ℕ) → Good E k (sending_at E k)
good_at E zero = refl
good_at E (suc k) = good_next E k (sending_at E k) (good_at E k) (held E (suc k)) refl (held E k) refl (clocks (E k)) refl

-- the computed state obeys the rules, at every moment
pub transmitter_at : (E : History) (k : ℕ) → Transmitter E k (sending_at E k)
transmitter_at E zero = refl
transmitter_at E (suc k) = next_turns E k (Transmitter E k) (sending_at E k) (transmitter_at E k) (good_at E k) (held E (suc k)) refl (held E k) refl (clocks (E k)) refl

-- and whatever obeys the rules is computed
pub transmitter_is : (E : History) (k : ℕ) (s : Sending) → Transmitter E k s → s ≡ sending_at E k
transmitter_is E zero s h = h
transmitter_is E (suc k) s h = came E k (Transmitter E k) (sending_at E k) (good_at E k) (λ q x. transmitter_is E k q x) s h

pub one_state : (E : History) (k : ℕ) → One (Transmitter E k)
one_state E k = record { it = sending_at E k; has = transmitter_at E k; alone = λ x h. transmitter_is E k x h }

-- The rules of framing lead to exactly one phase and one count at each moment. Assumes nothing.
use Rattle.std.proofs.Common.{◌≡◌, ℕ, zero, suc, ◌+◌, Bool, true, false, cond, ltb, Option, sym, refl, ap, ◌∙◌, arith}
use Rattle.std.proofs.lemmas.Bool.Decides.{nat_tests}
use Rattle.std.proofs.lemmas.Bool.{ltb-true, ltb-false, lt-ltb, le-ltb, false≢true, false_from_ne_true}
use Rattle.history.specs.Events.{received}
use Rattle.history.specs.Settings.{History, external, off, one_sync}
use Rattle.history.specs.Lines.{T, Phase, searching, one_sync_seen, in_sync, first, restarts, Match, Bit, Goes, restarted, untouched, no_sync, only_sync, first_sync, toward_second, second_sync, no_second, counted, character, Receiver}
use Rattle.history.specs.Law.{One}
use Rattle.history.proofs.Apart.{calm_bit}
use Rattle.history.proofs.Calm.{no_restart}
use Rattle.history.proofs.Computed.{fed, takes, next_phase, phase_at}

-- the test of a bit that the receiver takes
pub taken_test : (E : History) (k n : ℕ) → Bit E k n → takes (received (E k)) (off E k) n ≡ true
taken_test E k n b = grind (arith, nat_tests, b.came, b.on, b.room)

-- and a bit that passes the test
pub bit_of_lem : (E : History) (k n : ℕ) (r : Option ℕ) (o : Bool) → received (E k) ≡ r → off E k ≡ o → takes r o n ≡ true → Bit E k n
bit_of_lem E k n r o e f h = grind (arith, nat_tests)

-- the next phase and count, by whether the receiver restarts and whether it takes a bit
next_by_lem : (E : History) (k : ℕ) (q : Phase) (m : ℕ) (r t : Bool) → restarts E k ≡ r → takes (received (E k)) (off E k) m ≡ t → next_phase E k (q, m) ≡ cond r (first (external E (suc k)), m) (cond t (fed q m (Match E k) (one_sync E k) (T E k)) (q, m))
next_by_lem E k q m r t e f = grind arith

module _ (E : History) (k : ℕ) (S : Phase → ℕ → Type 0) where
  -- there is a next one

  -- from each phase
  from_one : (j n : ℕ) → S (one_sync_seen j) n → Bit E k n → (m : Bool) → Match E k ≡ m → (t : Bool) → ltb (j + 1) (T E k) ≡ t → Goes E k S (cond t (one_sync_seen (j + 1)) (cond m (in_sync 0) searching)) n
  from_one j n s b m e true h = toward_second j s b (ltb-true _ _ h) refl
  from_one j n s b true e false h = second_sync j s b (ltb-false _ _ h) e refl
  from_one j n s b false e false h = no_second j s b (ltb-false _ _ h) e refl

  -- the same of a pair
  abbrev Goes' : Phase × ℕ → Type 0
  Goes' x = Goes E k S x.0 x.1

  from_sync : (j n : ℕ) → S (in_sync j) n → Bit E k n → (t : Bool) → ltb (j + 1) (T E k) ≡ t → Goes' (cond t (in_sync (j + 1), n) (in_sync 0, n + 1))
  from_sync j n s b true h = counted j s b (ltb-true _ _ h) refl
  from_sync j n s b false h = character j n s b (ltb-false _ _ h) refl refl

  from_bit : (p : Phase) (n : ℕ) → S p n → Bit E k n → (m : Bool) → Match E k ≡ m → (o : Bool) → one_sync E k ≡ o → Goes' (fed p n m o (T E k))
  from_bit searching n s b false e o f = no_sync s b e refl
  from_bit searching n s b true e true f = only_sync s b e f refl
  from_bit searching n s b true e false f = first_sync s b e f refl
  from_bit (one_sync_seen j) n s b m e o f = from_one j n s b m e (ltb (j + 1) (T E k)) refl
  from_bit (in_sync j) n s b m e o f = from_sync j n s b (ltb (j + 1) (T E k)) refl

  -- from any phase, by any event
  next_goes : (p : Phase) (n : ℕ) → S p n → (r : Bool) → restarts E k ≡ r → (t : Bool) → takes (received (E k)) (off E k) n ≡ t → Goes' (cond r (first (external E (suc k)), n) (cond t (fed p n (Match E k) (one_sync E k) (T E k)) (p, n)))
  next_goes p n s true e t f = restarted p s e refl
  next_goes p n s false e true f = from_bit p n s (bit_of_lem E k n (received (E k)) (off E k) refl refl f) (Match E k) refl (one_sync E k) refl
  next_goes p n s false e false f = untouched s e (λ b. false≢true (sym f ∙ taken_test E k n b))

  -- and no other

  -- the phase and count came from some earlier ones, as computed
  abbrev Came : Phase → ℕ → Type 0
  Came p n = (q : Phase) × (m : ℕ) × S q m × ((p, n) ≡ next_phase E k (q, m))

  bit_next : (q : Phase) (m : ℕ) → Bit E k m → next_phase E k (q, m) ≡ fed q m (Match E k) (one_sync E k) (T E k)
  bit_next q m b = next_by_lem E k q m false true (no_restart E k (calm_bit (E k) b.bit b.came)) (taken_test E k m b)

  -- a match that is known
  fed_match : (q : Phase) (m : ℕ) (x : Bool) → Match E k ≡ x → fed q m (Match E k) (one_sync E k) (T E k) ≡ fed q m x (one_sync E k) (T E k)
  fed_match q m x e = cc

  -- a bit that is not taken does not pass the test
  not_taken : (n : ℕ) → (Bit E k n → ⊥) → takes (received (E k)) (off E k) n ≡ false
  not_taken n f = false_from_ne_true _ (λ e. f (bit_of_lem E k n (received (E k)) (off E k) refl refl e))

  came : (p : Phase) (n : ℕ) → Goes E k S p n → Came p n
  came p n (restarted q s r e) = (q, n, s, ap (λ p. (p, n)) e ∙ sym (next_by_lem E k q n true _ r refl))
  came p n (untouched s r f) = (p, n, s, sym (next_by_lem E k p n false false r (not_taken n f)))
  came p n (no_sync s b m e) = (searching, n, s, ap (λ p. (p, n)) e ∙ sym (bit_next searching n b ∙ fed_match searching n false m))
  came p n (only_sync s b m o e) = (searching, n, s, ap (λ p. (p, n)) e ∙ sym (bit_next searching n b ∙ fed_match searching n true m ∙ ap (λ o. fed searching n true o (T E k)) o))
  came p n (first_sync s b m o e) = (searching, n, s, ap (λ p. (p, n)) e ∙ sym (bit_next searching n b ∙ fed_match searching n true m ∙ ap (λ o. fed searching n true o (T E k)) o))
  came p n (toward_second j s b h e) = (one_sync_seen j, n, s, ap (λ p. (p, n)) e ∙ sym (bit_next (one_sync_seen j) n b ∙ ap (λ t. (cond t (one_sync_seen (j + 1)) (cond (Match E k) (in_sync 0) searching), n)) (lt-ltb _ _ h)))
  came p n (second_sync j s b h m e) = (one_sync_seen j, n, s, ap (λ p. (p, n)) e ∙ sym (bit_next (one_sync_seen j) n b ∙ fed_match (one_sync_seen j) n true m ∙ ap (λ t. (cond t (one_sync_seen (j + 1)) (in_sync 0), n)) (le-ltb _ _ h)))
  came p n (no_second j s b h m e) = (one_sync_seen j, n, s, ap (λ p. (p, n)) e ∙ sym (bit_next (one_sync_seen j) n b ∙ fed_match (one_sync_seen j) n false m ∙ ap (λ t. (cond t (one_sync_seen (j + 1)) searching, n)) (le-ltb _ _ h)))
  came p n (counted j s b h e) = (in_sync j, n, s, ap (λ p. (p, n)) e ∙ sym (bit_next (in_sync j) n b ∙ ap (λ t. cond t (in_sync (j + 1), n) (in_sync 0, n + 1)) (lt-ltb _ _ h)))
  came p n (character j m s b h e f) = (in_sync j, m, s, ap (λ p. (p, n)) e ∙ ap (λ n. (in_sync 0, n)) f ∙ sym (bit_next (in_sync j) m b ∙ ap (λ t. cond t (in_sync (j + 1), m) (in_sync 0, m + 1)) (le-ltb _ _ h)))

-- the computed phase and count obey the rules, at every moment
pub receiver_at : (E : History) (k : ℕ) → Receiver E k (phase_at E k).0 (phase_at E k).1
receiver_at E zero = (refl, refl)
receiver_at E (suc k) = next_goes E k (Receiver E k) (phase_at E k).0 (phase_at E k).1 (receiver_at E k) (restarts E k) refl (takes (received (E k)) (off E k) (phase_at E k).1) refl

-- and whatever obeys the rules is computed
pub receiver_is : (E : History) (k : ℕ) (p : Phase) (n : ℕ) → Receiver E k p n → (p, n) ≡ phase_at E k
receiver_is E zero p n h = ap (λ p. (p, n)) h.0 ∙ ap (λ n. (searching, n)) h.1
receiver_is E (suc k) p n h =
    let c = came E k (Receiver E k) p n h in
    c.3 ∙ ap (next_phase E k) (receiver_is E k c.0 c.1 c.2)

pub one_phase : (E : History) (k : ℕ) → One (λ (p : Phase × ℕ). Receiver E k p.0 p.1)
one_phase E k = record { it = phase_at E k; has = receiver_at E k; alone = λ x h. receiver_is E k x.0 x.1 h }

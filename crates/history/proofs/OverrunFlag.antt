-- Two flags, overrun and its arm, that change by these rules show exactly when there is overrun. Assumes nothing.
use Rattle.std.proofs.Common.{◌≡◌, ℕ, zero, suc, ◌<◌, ◌≤◌, Bool, true, false, not, ◌&&◌, ◌||◌, ◌⊎◌, ◌↔◌, sym, refl, subst, subst₂, inl, inr, arith}
use Rattle.std.proofs.lemmas.Bool.{cases_eq}
use native.Mathlib.Decide.{dec_lt}
use Rattle.serial.specs.Life.{was_displaced}
use Rattle.history.specs.Events.{reads}
use Rattle.history.specs.Settings.{History, ReadsStatus, ReadsData, ResetsReceiver}
use Rattle.history.specs.Lines.{Frames}
use Rattle.history.specs.Law.{lost, Met, by_the_next, Between, Overrun}
use Rattle.history.proofs.Apart.{calm_read, one_select}
use Rattle.history.proofs.Receiving.{frame_calm, frame_or_read}
use Rattle.history.proofs.Resets.{calm_rx}

-- how the flags o (overrun) and a (its arm) become p and b by event k
pub data FlagChange (E : History) (k : ℕ) (o a p b : Bool) : Type 0 where
  set_by_a_loss : (n : ℕ) → Met E k n lost → p ≡ true → b ≡ false → FlagChange E k o a p b
  cleared_by_a_reset : ResetsReceiver E k → p ≡ false → b ≡ false → FlagChange E k o a p b
  armed_by_a_status_read : ReadsStatus E k → p ≡ o → b ≡ (a || o) → FlagChange E k o a p b
  read_by_a_data_read : ReadsData E k → p ≡ (o && not a) → b ≡ false → FlagChange E k o a p b
  left_alone : ((n : ℕ) → Met E k n lost → ⊥) → (ResetsReceiver E k → ⊥) → (ReadsStatus E k → ⊥) → (ReadsData E k → ⊥) → p ≡ o → b ≡ a → FlagChange E k o a p b

-- losses, resets, Status reads and data reads are different events

module _ (E : History) (k : ℕ) where
  -- a character is lost by a framed one
  pub loss_frames : (n : ℕ) → Met E k n lost → (m : ℕ) × Frames E k m
  loss_frames n (by_the_next (was_displaced m s e)) = (m, e.0)

  -- so a loss is no read, with whatever register select
  loss_no_read : (r n : ℕ) → Met E k n lost → reads r (E k) ≡ true → ⊥
  loss_no_read r n m = let f = loss_frames n m in frame_or_read E k r f.0 f.1

  -- nor a reset
  loss_no_reset : (n : ℕ) → Met E k n lost → ResetsReceiver E k → ⊥
  loss_no_reset n m = let f = loss_frames n m in calm_rx E k (frame_calm E k f.0 f.1)

  -- a read is no reset
  read_no_reset : (r : ℕ) → reads r (E k) ≡ true → ResetsReceiver E k → ⊥
  read_no_reset r h = calm_rx E k (calm_read r (E k) h)

  -- and one of Status is none of data
  status_no_data : ReadsStatus E k → ReadsData E k → ⊥
  status_no_data h i = omega (arith, one_select 0 1 (E k) h i)

-- what happened between two events, one event later

module _ (P : ℕ → Type 0) (i k : ℕ) where
  -- it still did
  still_between : Between P i k → Between P i (suc k)
  still_between b = (b.0, b.1, omega (arith, b.2), b.3)

  -- it did before, where event k is no such event
  not_at_last : (P k → ⊥) → Between P i (suc k) → Between P i k
  not_at_last none b = grind (arith, cases_eq b.0 k)

module _ (E : History) where
  -- event i loses a character
  abbrev Loss : ℕ → Type 0
  Loss i = (n : ℕ) × Met E i n lost

  -- between events i and k a Status read was followed by a data read
  abbrev Seen : ℕ → ℕ → Type 0
  Seen i k = Between (λ s. ReadsStatus E s × Between (λ j. ReadsData E j) s k) i k

  -- a loss at event i was undone before event k
  abbrev Undone : ℕ → ℕ → Type 0
  Undone i k = Between (λ j. ResetsReceiver E j) i k ⊎ Seen i k

  -- what the two flags say before event k: every loss was undone; the latest loss, i, was not, and no Status was read since;
  -- the latest loss was not undone, and Status was read since, by event s
  data Flag (k : ℕ) : Bool → Bool → Type 0 where
    clear : ((i : ℕ) → i < k → Loss i → Undone i k) → Flag k false false
    fresh : (i : ℕ) → i < k → Loss i → (Between Loss i k → ⊥) → (Between (λ j. ResetsReceiver E j) i k → ⊥) → (Between (λ j. ReadsStatus E j) i k → ⊥) → Flag k true false
    seen : Overrun E k → (s : ℕ) → s < k → ReadsStatus E s → ((i : ℕ) → s ≤ i → i < k → Loss i → ⊥) → Flag k true true

  -- a fresh loss is overrun
  fresh_overrun : (k i : ℕ) → i < k → Loss i → (Between Loss i k → ⊥) → (Between (λ j. ResetsReceiver E j) i k → ⊥) → (Between (λ j. ReadsStatus E j) i k → ⊥) → Overrun E k
  fresh_overrun k i l m none r s = record {
    at = i;
    before = l;
    who = m.0;
    loss = m.1;
    latest_loss = none;
    no_reset = r;
    not_seen = λ z. s (z.0, z.1, z.2, z.3.0);
  }

  -- the first flag is up exactly when there is overrun
  flag_overrun : (k : ℕ) (o a : Bool) → Flag k o a → o ≡ true → Overrun E k
  flag_overrun k o a (clear u) e = cc
  flag_overrun k o a (fresh i l m none r s) e = fresh_overrun k i l m none r s
  flag_overrun k o a (seen v s l h none) e = v

  overrun_flag : (k : ℕ) (o a : Bool) → Flag k o a → Overrun E k → o ≡ true
  overrun_flag k o a (clear u) v = go (u v.at v.before (v.who, v.loss))
    where
      go : Undone v.at k → false ≡ true
      go (inl b) = absurd (v.no_reset b)
      go (inr b) = absurd (v.not_seen b)
  overrun_flag k o a (fresh i l m none r s) v = refl
  overrun_flag k o a (seen w s l h none) v = refl

  -- over one event
  module _ (k : ℕ) where
    -- what was undone stays so
    undone_still : (i : ℕ) → Undone i k → Undone i (suc k)
    undone_still i u = grind (arith, still_between)

    -- where event k is no data read, the data read that followed Status came before
    seen_before : (i : ℕ) → (ReadsData E k → ⊥) → Seen i (suc k) → Seen i k
    seen_before i no_data b = grind (arith, not_at_last)

    -- where event k is no loss, the losses before event k + 1 were before event k
    earlier_losses : (Q : ℕ → Type 0) → (Loss k → ⊥) → ((i : ℕ) → i < k → Loss i → Q i) → (i : ℕ) → i < suc k → Loss i → Q i
    earlier_losses Q no_loss h i l m = grind (arith, cases_eq i k)

    -- clear, fresh and seen last over an event that doesn't end them
    clear_still : (Loss k → ⊥) → ((i : ℕ) → i < k → Loss i → Undone i k) → Flag (suc k) false false
    clear_still no_loss u = clear (earlier_losses (λ i. Undone i (suc k)) no_loss (λ i l m. undone_still i (u i l m)))

    fresh_still : (Loss k → ⊥) → (ResetsReceiver E k → ⊥) → (ReadsStatus E k → ⊥) → (i : ℕ) → i < k → Loss i → (Between Loss i k → ⊥) → (Between (λ j. ResetsReceiver E j) i k → ⊥) → (Between (λ j. ReadsStatus E j) i k → ⊥) → Flag (suc k) true false
    fresh_still no_loss no_reset no_status i l m none r s =
        fresh
        i
        (omega arith)
        m
        (λ b. none (not_at_last Loss i k no_loss b))
        (λ b. r (not_at_last (λ j. ResetsReceiver E j) i k no_reset b))
        (λ b. s (not_at_last (λ j. ReadsStatus E j) i k no_status b))

    -- and so does overrun
    overrun_still : (Loss k → ⊥) → (ResetsReceiver E k → ⊥) → (ReadsData E k → ⊥) → Overrun E k → Overrun E (suc k)
    overrun_still no_loss no_reset no_data v = record {
      at = v.at;
      before = omega (arith, v.before);
      who = v.who;
      loss = v.loss;
      latest_loss = λ b. v.latest_loss (not_at_last Loss v.at k no_loss b);
      no_reset = λ b. v.no_reset (not_at_last (λ j. ResetsReceiver E j) v.at k no_reset b);
      not_seen = λ b. v.not_seen (seen_before v.at no_data b);
    }

    seen_still : (Loss k → ⊥) → (ResetsReceiver E k → ⊥) → (ReadsData E k → ⊥) → Overrun E k → (s : ℕ) → s < k → ReadsStatus E s → ((i : ℕ) → s ≤ i → i < k → Loss i → ⊥) → Flag (suc k) true true
    seen_still no_loss no_reset no_data v s l h none =
        seen (overrun_still no_loss no_reset no_data v) s (omega arith) h (λ i g lt m. earlier_losses (λ i. s ≤ i → ⊥) no_loss (λ i lt m g. none i g lt m) i lt m g)

    -- over an event that is none of the four
    after_nothing : (o a : Bool) → (Loss k → ⊥) → (ResetsReceiver E k → ⊥) → (ReadsStatus E k → ⊥) → (ReadsData E k → ⊥) → Flag k o a → Flag (suc k) o a
    after_nothing o a no_loss no_reset no_status no_data (clear u) = clear_still no_loss u
    after_nothing o a no_loss no_reset no_status no_data (fresh i l m none r s) = fresh_still no_loss no_reset no_status i l m none r s
    after_nothing o a no_loss no_reset no_status no_data (seen v s l h none) = seen_still no_loss no_reset no_data v s l h none

    -- a loss is the latest one and is fresh
    after_loss_lem : Loss k → Flag (suc k) true false
    after_loss_lem m = fresh k (omega arith) m (λ b. omega (arith, b.1, b.2)) (λ b. omega (arith, b.1, b.2)) (λ b. omega (arith, b.1, b.2))

    -- a reset undoes every loss
    after_reset : ResetsReceiver E k → Flag (suc k) false false
    after_reset h = clear (earlier_losses (λ i. Undone i (suc k)) (λ m. loss_no_reset E k m.0 m.1 h) (λ i l m. inl (k, l, omega arith, h)))

    -- a Status read arms: what was fresh is seen
    after_status_read_lem : ReadsStatus E k → (o a : Bool) → Flag k o a → Flag (suc k) o (a || o)
    after_status_read_lem h o a f = go o a f
      where
        no_loss : Loss k → ⊥
        no_loss m = loss_no_read E k 0 m.0 m.1 h

        no_reset : ResetsReceiver E k → ⊥
        no_reset = read_no_reset E k 0 h

        no_data : ReadsData E k → ⊥
        no_data = status_no_data E k h

        go : (o a : Bool) → Flag k o a → Flag (suc k) o (a || o)
        go o a (clear u) = clear_still no_loss u
        go o a (fresh i l m none r s) =
            seen (overrun_still no_loss no_reset no_data (fresh_overrun k i l m none r s)) k (omega arith) h (λ j g lt x. let e : j ≡ k = omega arith in no_loss (subst Loss e x))
        go o a (seen v s l g none) = seen_still no_loss no_reset no_data v s l g none

    -- a data read undoes every loss if Status was read since the latest
    after_data_read_lem : ReadsData E k → (o a : Bool) → Flag k o a → Flag (suc k) (o && not a) false
    after_data_read_lem h o a f = go o a f
      where
        no_loss : Loss k → ⊥
        no_loss m = loss_no_read E k 1 m.0 m.1 h

        go : (o a : Bool) → Flag k o a → Flag (suc k) (o && not a) false
        go o a (clear u) = clear_still no_loss u
        go o a (fresh i l m none r s) = fresh_still no_loss (read_no_reset E k 1 h) (λ g. status_no_data E k g h) i l m none r s
        go o a (seen v s l g none) = clear (earlier_losses (λ i. Undone i (suc k)) no_loss (λ i lt m. inr (s, older i lt m, omega arith, (g, (k, l, omega arith, h)))))
          where
            -- every loss came before that Status read
            older : (i : ℕ) → i < k → Loss i → i < s
            older i lt m = elim (dec_lt i s) [ yes d ↦ d | no d ↦ absurd (none i (omega arith) lt m) ]

    -- the same for equal flags
    same_flags : (o a p b : Bool) → p ≡ o → b ≡ a → Flag (suc k) o a → Flag (suc k) p b
    same_flags o a p b e f g = subst₂ (Flag (suc k)) (sym e) (sym f) g

    -- the flags after event k
    flag_step : (o a p b : Bool) → FlagChange E k o a p b → Flag k o a → Flag (suc k) p b
    flag_step o a p b (set_by_a_loss n m e f) g = same_flags true false p b e f (after_loss_lem (n, m))
    flag_step o a p b (cleared_by_a_reset h e f) g = same_flags false false p b e f (after_reset h)
    flag_step o a p b (armed_by_a_status_read h e f) g = same_flags o (a || o) p b e f (after_status_read_lem h o a g)
    flag_step o a p b (read_by_a_data_read h e f) g = same_flags (o && not a) false p b e f (after_data_read_lem h o a g)
    flag_step o a p b (left_alone no_loss no_reset no_status no_data e f) g = same_flags o a p b e f (after_nothing o a (λ m. no_loss m.0 m.1) no_reset no_status no_data g)

  -- at first
  no_flags : (o a : Bool) → o ≡ false → a ≡ false → Flag 0 o a
  no_flags o a e f = grind (arith, clear)

  module _ (o a : ℕ → Bool) (o0 : o 0 ≡ false) (a0 : a 0 ≡ false) (changes : (k : ℕ) → FlagChange E k (o k) (a k) (o (suc k)) (a (suc k))) where
    -- at each moment
    flags : (k : ℕ) → Flag k (o k) (a k)
    flags zero = no_flags (o 0) (a 0) o0 a0
    flags (suc k) = flag_step k (o k) (a k) (o (suc k)) (a (suc k)) (changes k) (flags k)

-- the overrun flag is up exactly when there is overrun
pub overrun_exactly : (E : History) (o a : ℕ → Bool) → o 0 ≡ false → a 0 ≡ false → ((k : ℕ) → FlagChange E k (o k) (a k) (o (suc k)) (a (suc k))) → (k : ℕ) → (o k ≡ true) ↔ Overrun E k
overrun_exactly E o a o0 a0 changes k =
    let f = flags E o a o0 a0 changes k in (flag_overrun E k (o k) (a k) f, overrun_flag E k (o k) (a k) f)

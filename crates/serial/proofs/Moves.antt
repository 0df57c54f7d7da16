-- Every list of moves on a new queue lives by the law. Assumes nothing.
use Rattle.std.proofs.Common.{◌≡◌, ℕ, suc, ◌+◌, ◌<◌, ◌≤◌, ◌≢◌, ◌⊎◌, ◌↔◌, List, [], ◌∷◌, ◌++◌, map, length, get_or, Some, None, sym, refl, ap, ◌∙◌, subst, ap₂, inl, inr, add-one, arith}
use Rattle.std.proofs.lemmas.List.FromFn.{length-map-range_with_len, get_or-map-range_with_len, map-range_with_len_more}
use Rattle.std.proofs.lemmas.List.{ext_get_or}
use Rattle.std.specs.List.{range_with_len}
use Rattle.serial.specs.declared.life.Move.{Move}
use Rattle.serial.specs.declared.life.Move.TheVariants.{Enter, Rise, Take, Clear, Nothing}
use Rattle.serial.specs.declared.life.Told.{Told}
use Rattle.serial.specs.declared.life.Way.{Way}
use Rattle.serial.specs.declared.life.Way.TheVariants.{Taken}
use Rattle.serial.specs.declared.queue.Queue.{Queue}
use Rattle.serial.specs.Lives.{Rising}
use Rattle.serial.specs.Life.{Acts, Stands, enters, Left, was_taken, Shows, in_one, in_two, in_three}
use Rattle.serial.specs.Telling.{Tells}
use Rattle.serial.specs.Moves.{Act, acted, act_of, tells_of, tells_at, queue_at, move_at, enters_one, entered_by, moves_of, acts_of, quiet, EveryLife, OneLife}
use Rattle.serial.proofs.Lifelines.{Lifelines, lives}
use Rattle.serial.proofs.Places.{IsEnter, Here, Held, of_in, in_of}
use Rattle.serial.proofs.Standing.{tie, Sane, counted, placed, alone, goes, was, stood, stops, one_leaving, taken_rise}
use Rattle.serial.proofs.Pinning.{tells_code, tells_numbers, places_same}
use Rattle.serial.proofs.Tellings.{told_exactly}

-- moves told apart
abbrev kind : Move → ℕ
kind Enter = 0
kind Rise = 1
kind Take = 2
kind Clear = 3
kind Nothing = 4

apart : (m x y : Move) → kind x ≢ kind y → m ≡ x → m ≡ y → ⊥
apart m x y d e f = d (ap kind (sym e ∙ f))

module _ (M : ℕ → Move) where
  here_of : (k : ℕ) (m : Move) → M k ≡ m → Here (moves_of M) k (act_of m (entered_by M k + 1))
  here_of k Enter e = record {
    entering = λ n. ((λ h. sym h.1), (λ h. (e, sym h)));
    rising = ((λ h. apart (M k) Enter Rise (λ z. omega arith) e h), (λ h. absurd h));
    taking = ((λ h. apart (M k) Enter Take (λ z. omega arith) e h), (λ h. absurd h));
    emptying = ((λ h. apart (M k) Enter Clear (λ z. omega arith) e h), (λ h. absurd h));
  }
  here_of k Rise e = record {
    entering = λ n. ((λ h. apart (M k) Rise Enter (λ z. omega arith) e h.0), (λ h. absurd h));
    rising = ((λ h. tt), (λ h. e));
    taking = ((λ h. apart (M k) Rise Take (λ z. omega arith) e h), (λ h. absurd h));
    emptying = ((λ h. apart (M k) Rise Clear (λ z. omega arith) e h), (λ h. absurd h));
  }
  here_of k Take e = record {
    entering = λ n. ((λ h. apart (M k) Take Enter (λ z. omega arith) e h.0), (λ h. absurd h));
    rising = ((λ h. apart (M k) Take Rise (λ z. omega arith) e h), (λ h. absurd h));
    taking = ((λ h. tt), (λ h. e));
    emptying = ((λ h. apart (M k) Take Clear (λ z. omega arith) e h), (λ h. absurd h));
  }
  here_of k Clear e = record {
    entering = λ n. ((λ h. apart (M k) Clear Enter (λ z. omega arith) e h.0), (λ h. absurd h));
    rising = ((λ h. apart (M k) Clear Rise (λ z. omega arith) e h), (λ h. absurd h));
    taking = ((λ h. apart (M k) Clear Take (λ z. omega arith) e h), (λ h. absurd h));
    emptying = ((λ h. tt), (λ h. e));
  }
  here_of k Nothing e = record {
    entering = λ n. ((λ h. apart (M k) Nothing Enter (λ z. omega arith) e h.0), (λ h. absurd h));
    rising = ((λ h. apart (M k) Nothing Rise (λ z. omega arith) e h), (λ h. absurd h));
    taking = ((λ h. apart (M k) Nothing Take (λ z. omega arith) e h), (λ h. absurd h));
    emptying = ((λ h. apart (M k) Nothing Clear (λ z. omega arith) e h), (λ h. absurd h));
  }

  -- what enters by a move is the next number, and it is counted then
  fresh_of : (k m : ℕ) (x : Move) → M k ≡ x → IsEnter (act_of x (entered_by M k + 1)) m → (entered_by M k < m) × (m ≤ entered_by M (suc k))
  fresh_of k m Enter e h = omega (arith, ap enters_one e)
  fresh_of k m Rise e h = absurd h
  fresh_of k m Take e h = absurd h
  fresh_of k m Clear e h = absurd h
  fresh_of k m Nothing e h = absurd h

  -- moves are acts that can be told apart, with rising numbers
  sane : Sane (moves_of M) (acts_of M) (entered_by M)
  sane = record { here = λ k. here_of k (M k) refl; grows = λ k. omega arith; fresh = λ k m. fresh_of k m (M k) refl }

  -- whoever is counted anew by a move has entered by it
  comes : (k n : ℕ) → entered_by M k < n → n ≤ entered_by M (suc k) → ((w : Way) × Left (moves_of M) k n w) ⊎ ((p : ℕ) × Stands (moves_of M) (suc k) n p)
  comes k n l u = go (M k) refl
    where
      go : (x : Move) → M k ≡ x → ((w : Way) × Left (moves_of M) k n w) ⊎ ((p : ℕ) × Stands (moves_of M) (suc k) n p)
      go Enter e = inr (1, enters (e, omega (arith, ap enters_one e)) refl)
      go Rise e = absurd (omega (arith, ap enters_one e))
      go Take e = absurd (omega (arith, ap enters_one e))
      go Clear e = absurd (omega (arith, ap enters_one e))
      go Nothing e = absurd (omega (arith, ap enters_one e))

  lifelines : Lifelines (entered_by M) (Stands (moves_of M)) (Left (moves_of M))
  lifelines = record {
    from_none = refl;
    none_first = λ n w h. h;
    rises = λ k. omega arith;
    counted = counted (moves_of M) (acts_of M) (entered_by M) sane;
    comes = comes;
    goes = goes (moves_of M) (acts_of M) (entered_by M) sane;
    was = was (moves_of M) (acts_of M) (entered_by M) sane;
    stood = λ k n w l. inl (stood (moves_of M) (acts_of M) (entered_by M) sane k n w l);
    stops = λ k n w p. stops (moves_of M) (acts_of M) (entered_by M) sane k n p w;
    one_fate = one_leaving (moves_of M) (acts_of M) (entered_by M) sane;
    one_way = placed (moves_of M) (acts_of M) (entered_by M) sane;
  }

  taken_out : (k n : ℕ) → Left (moves_of M) k n Taken → Stands (moves_of M) k n 3 × (moves_of M).Takes k
  taken_out k n (was_taken h e) = (h, e)

  rising : Rising (λ k n. Left (moves_of M) k n Taken)
  rising = record {
    one_at_a_time = λ k m n a b. alone (moves_of M) (acts_of M) (entered_by M) sane k m n 3 (taken_out k m a).0 (taken_out k n b).0;
    rising = λ i j m n l a b. taken_rise (moves_of M) (acts_of M) (entered_by M) sane i j m n l (taken_out i m a).0 (taken_out i m a).1 (taken_out j n b).0;
  }

-- the places show whom they hold
shows_held : (q : Queue ℕ) (n p : ℕ) → Shows q n p → Held q n p
shows_held q n p (in_one e h) = inl (e, in_of q.one n h)
shows_held q n p (in_two e h) = inr (inl (e, in_of q.two n h))
shows_held q n p (in_three e h) = inr (inr (e, in_of q.three n h))

held_shows : (q : Queue ℕ) (n p : ℕ) → Held q n p → Shows q n p
held_shows q n p (inl h) = in_one h.0 (of_in q.one n h.1)
held_shows q n p (inr (inl h)) = in_two h.0 (of_in q.two n h.1)
held_shows q n p (inr (inr h)) = in_three h.0 (of_in q.three n h.1)

-- what stands is shown, in every life
pub shown : (A : Acts) (act : ℕ → Act) (bound : ℕ → ℕ) → Sane A act bound → (k n p : ℕ) → Shows (queue_at act k) n p ↔ Stands A k n p
shown A act bound s k n p =
    let t = tie A act bound s k in
    ((λ h. t.from n p (shows_held (queue_at act k) n p h)), (λ h. held_shows (queue_at act k) n p (t.to n p h)))

pub every_life : EveryLife
every_life ms =
    let M = move_at ms in
    let K = length ms in
    record {
      each_one_fate = lives (lifelines M) K;
      one_to_a_place = λ m n p. alone (moves_of M) (acts_of M) (entered_by M) (sane M) K m n p;
      taken_rise = rising M;
      one_telling_each = length-map-range_with_len _ 0 K;
      told_exactly = λ k h.
          let e = get_or-map-range_with_len (tells_at ms) 0 K k k quiet h (omega arith) in
          subst (λ (t : Told). Tells Some None (Left (moves_of M) k) t.way t.who) (sym e) (told_exactly (moves_of M) (acts_of M) (entered_by M) (sane M) k);
      standing_shown = shown (moves_of M) (acts_of M) (entered_by M) (sane M) K;
    }

-- One turn of a life: at move k, which is x, with e entered before it, from the queue q and what was told so far.
module _ (ms : List Move) (k : ℕ) (x : Move) (e : ℕ) (q : Queue ℕ) (here : x ≡ move_at ms k) (count : e ≡ entered_by (move_at ms) k) (holds : q ≡ queue_at (acts_of (move_at ms)) k) where
  act_here : act_of x (e + 1) ≡ acts_of (move_at ms) k
  act_here = ap₂ (λ y n. act_of y (n + 1)) here count

  pub queue_more : (after : Queue ℕ) → after ≡ acted q (act_of x (e + 1)) → after ≡ queue_at (acts_of (move_at ms)) (k + 1)
  queue_more after done = done ∙ ap₂ acted holds act_here ∙ ap (queue_at (acts_of (move_at ms))) (sym (add-one k))

  pub entered_more : (more : ℕ) → more ≡ enters_one x → e + more ≡ entered_by (move_at ms) (k + 1)
  entered_more more one = ap₂ ◌+◌ count (one ∙ ap enters_one here) ∙ ap (entered_by (move_at ms)) (sym (add-one k))

  pub told_more : (told : Told) (before after : List Told) → told ≡ tells_of q (act_of x (e + 1)) → before ≡ map (tells_at ms) (range_with_len 0 k) → after ≡ before ++ told ∷ [] → after ≡ map (tells_at ms) (range_with_len 0 (k + 1))
  told_more told before after says so_far pushed =
      pushed
      ∙ ap₂ (λ ts t. ts ++ t ∷ []) so_far (says ∙ ap₂ tells_of holds act_here)
      ∙ sym (map-range_with_len_more (tells_at ms) 0 k k (omega arith))

-- at most one enters by a move
pub one_at_most : (x : Move) → enters_one x ≤ 1
one_at_most Enter = omega arith
one_at_most Rise = omega arith
one_at_most Take = omega arith
one_at_most Clear = omega arith
one_at_most Nothing = omega arith

told_same : (t u : Told) → t.way ≡ u.way → t.who ≡ u.who → t ≡ u
told_same t u w n = ap₂ (λ way who. record { way = way; who = who }) w n

pub one_life : OneLife
one_life ms t u q r a b =
    let A = moves_of (move_at ms) in (
      ext_get_or quiet t u (a.one_telling_each ∙ sym b.one_telling_each)
          (λ k h.
          let early : k < length ms = omega (arith, a.one_telling_each) in
          let p = a.told_exactly k early in
          let s = b.told_exactly k early in
          told_same (get_or t k quiet) (get_or u k quiet)
          (tells_code Some None (Left A k) _ _ _ _ p s)
          (tells_numbers Some None (Left A k) _ _ _ _ p s)),
      places_same q r
          (λ n p h. (b.standing_shown n p).1 ((a.standing_shown n p).0 h))
          (λ n p h. (a.standing_shown n p).1 ((b.standing_shown n p).0 h)),
    )

-- The queue holds exactly those who stand, after any acts; and what follows for every life. Assumes nothing.
use Rattle.std.proofs.Common.{◌≡◌, ℕ, zero, suc, ◌+◌, ◌<◌, ◌≤◌, ◌≢◌, ◌⊎◌, Some, None, Option, refl, subst, inl, inr, arith}
use native.Mathlib.Decide.{dec_lt, dec_le, ℕ_discrete}
use Rattle.serial.specs.declared.life.Way.{Way}
use Rattle.serial.specs.declared.life.Way.TheVariants.{Displaced, Taken, Emptied}
use Rattle.serial.specs.declared.queue.Queue.{Queue}
use Rattle.serial.specs.Queue.{queue_of, moved_up}
use Rattle.serial.specs.Life.{Acts, Count, Older, Spares, Next, enters, stays, rises, Stands, Left, was_displaced, was_taken, was_emptied}
use Rattle.serial.specs.Moves.{Act, enter, rise, take, empty, nothing, acted, queue_at}
use Rattle.serial.proofs.Places.{IsEnter, IsRise, IsTake, IsEmpty, Here, count_unique, count_map, Held, Given, Behind, Ordered, range, order, one_place, here, risen_ordered, stood_before, room}

-- the queue q holds exactly those of whom S says that they stand, in order, with numbers up to f
pub record Tie (S : ℕ → ℕ → Type 0) (q : Queue ℕ) (f : ℕ) : Type 0 where
  pub to : (n p : ℕ) → S n p → Held q n p
  pub from : (n p : ℕ) → Held q n p → S n p
  pub ordered : Ordered q.one q.two q.three f

-- more numbers given out change nothing in the order
wider : (o : Option ℕ) (f g : ℕ) → f ≤ g → Given o f → Given o g
wider None f g l h = tt
wider (Some x) f g l h = (h.0, omega (arith, l, h.1))

widened : (a b c : Option ℕ) (f g : ℕ) → f ≤ g → Ordered a b c f → Ordered a b c g
widened a b c f g l o = (wider a f g l o.0, wider b f g l o.1, wider c f g l o.2, o.3, o.4, o.5)

none_behind : (o : Option ℕ) → Behind o None
none_behind None = tt
none_behind (Some x) = tt

module _ (A : Acts) (k : ℕ) (S : ℕ → ℕ → Type 0) (q : Queue ℕ) (f g : ℕ) (t : Tie S q f) (l : f ≤ g) where
  -- over a rise the older ones can be counted, and leave room
  pub climb : (n p : ℕ) → S n p → (r c : ℕ) × Count (Older S n) 3 c × (r + c ≡ 3) × Held (moved_up q.one q.two q.three) n r
  climb n p s =
      let w = room q.one q.two q.three f n p t.ordered (t.to n p s) in
      (w.0, w.1, count_map _ _ (λ k o. (o.0, o.1, t.from _ _ o.2)) (λ k o. (o.0, o.1, t.to _ _ o.2)) 3 _ w.2, w.3, w.4)

  -- the tie over each act
  tie_enter : (m : ℕ) → f < m → m ≤ g → Here A k (enter m) → Tie (Next A k S) (queue_of (Some m) q.two q.three) g
  tie_enter m lo hi h = record { to = λ n p. go n p; from = λ n p. back n p; ordered = newest q.two q.three t.ordered.1 t.ordered.2 t.ordered.5 }
    where
      keep : (n p : ℕ) → p ≢ 1 → Held q n p → Held (queue_of (Some m) q.two q.three) n p
      keep n p d (inl i) = absurd (d i.0)
      keep n p d (inr i) = inr i

      go : (n p : ℕ) → Next A k S n p → Held (queue_of (Some m) q.two q.three) n p
      go n p (enters e b) = inl (b, (h.entering n).0 e)
      go n p (stays s d) = keep n p (d.not_displaced m ((h.entering m).1 refl)) (t.to n p s)
      go n p (rises r c e s w b) = absurd (h.rising.0 e)

      spares : (p : ℕ) → p ≢ 1 → Spares A k p
      spares p d = record { not_displaced = λ n e. d; not_raised = h.rising.0; not_taken = λ e. absurd (h.taking.0 e); not_emptied = h.emptying.0 }

      back : (n p : ℕ) → Held (queue_of (Some m) q.two q.three) n p → Next A k S n p
      back n p (inl i) = enters ((h.entering n).1 i.1) i.0
      back n p (inr (inl i)) = stays (t.from n p (inr (inl i))) (spares p (λ e. omega (arith, e, i.0)))
      back n p (inr (inr i)) = stays (t.from n p (inr (inr i))) (spares p (λ e. omega (arith, e, i.0)))

      newest : (b c : Option ℕ) → Given b f → Given c f → Behind b c → Ordered (Some m) b c g
      newest None None x y z = ((omega (arith, lo), hi), tt, tt, tt, tt, tt)
      newest (Some b) None x y z = ((omega (arith, lo), hi), (x.0, omega (arith, l, x.1)), tt, omega (arith, lo, x.1), tt, tt)
      newest None (Some c) x y z = ((omega (arith, lo), hi), tt, (y.0, omega (arith, l, y.1)), tt, omega (arith, lo, y.1), tt)
      newest (Some b) (Some c) x y z = ((omega (arith, lo), hi), (x.0, omega (arith, l, x.1)), (y.0, omega (arith, l, y.1)), omega (arith, lo, x.1), omega (arith, lo, y.1), z)

  tie_rise : Here A k rise → Tie (Next A k S) (moved_up q.one q.two q.three) g
  tie_rise h = record { to = λ n p. go n p; from = back; ordered = widened _ _ _ f g l (risen_ordered q.one q.two q.three f t.ordered) }
    where
      go : (n p : ℕ) → Next A k S n p → Held (moved_up q.one q.two q.three) n p
      go n p (enters e b) = absurd ((h.entering n).0 e)
      go n p (stays s d) = absurd (d.not_raised (h.rising.1 tt))
      go n p (rises r c e s w b) =
          let v = climb n r s in
          let same = count_unique _ _ _ _ w v.2 in
          let at : v.0 ≡ p = omega (arith, same, b, v.3) in
          let P : ℕ → Type 0 = λ x. Held (moved_up q.one q.two q.three) n x in subst P at v.4

      back : (n p : ℕ) → Held (moved_up q.one q.two q.three) n p → Next A k S n p
      back n p i =
          let u = stood_before q.one q.two q.three n p i in
          let s = t.from n u.0 u.1 in
          let w = climb n u.0 s in
          let at = one_place _ _ _ f n p w.0 (risen_ordered q.one q.two q.three f t.ordered) i w.4 in
          rises u.0 w.1 (h.rising.1 tt) s w.2 (omega (arith, at, w.3))

  tie_take : Here A k take → Tie (Next A k S) (queue_of q.one q.two None) g
  tie_take h = record { to = λ n p. go n p; from = λ n p. back n p; ordered = widened _ _ _ f g l (t.ordered.0, t.ordered.1, tt, t.ordered.3, none_behind q.one, none_behind q.two) }
    where
      keep : (n p : ℕ) → p ≢ 3 → Held q n p → Held (queue_of q.one q.two None) n p
      keep n p d (inl i) = inl i
      keep n p d (inr (inl i)) = inr (inl i)
      keep n p d (inr (inr i)) = absurd (d i.0)

      go : (n p : ℕ) → Next A k S n p → Held (queue_of q.one q.two None) n p
      go n p (enters e b) = absurd ((h.entering n).0 e)
      go n p (stays s d) = keep n p (d.not_taken (h.taking.1 tt)) (t.to n p s)
      go n p (rises r c e s w b) = absurd (h.rising.0 e)

      spares : (p : ℕ) → p ≢ 3 → Spares A k p
      spares p d = record { not_displaced = λ n e. absurd ((h.entering n).0 e); not_raised = h.rising.0; not_taken = λ e. d; not_emptied = h.emptying.0 }

      back : (n p : ℕ) → Held (queue_of q.one q.two None) n p → Next A k S n p
      back n p (inl i) = stays (t.from n p (inl i)) (spares p (λ e. omega (arith, e, i.0)))
      back n p (inr (inl i)) = stays (t.from n p (inr (inl i))) (spares p (λ e. omega (arith, e, i.0)))
      back n p (inr (inr i)) = absurd i.1

  tie_empty : Here A k empty → Tie (Next A k S) (queue_of None None None) g
  tie_empty h = record { to = λ n p. go n p; from = λ n p. back n p; ordered = (tt, tt, tt, tt, tt, tt) }
    where
      go : (n p : ℕ) → Next A k S n p → Held (queue_of None None None) n p
      go n p (enters e b) = absurd ((h.entering n).0 e)
      go n p (stays s d) = absurd (d.not_emptied (h.emptying.1 tt))
      go n p (rises r c e s w b) = absurd (h.rising.0 e)

      back : (n p : ℕ) → Held (queue_of None None None) n p → Next A k S n p
      back n p (inl i) = absurd i.1
      back n p (inr (inl i)) = absurd i.1
      back n p (inr (inr i)) = absurd i.1

  tie_nothing : Here A k nothing → Tie (Next A k S) q g
  tie_nothing h = record { to = λ n p. go n p; from = λ n p i. stays (t.from n p i) (spares p); ordered = widened _ _ _ f g l t.ordered }
    where
      go : (n p : ℕ) → Next A k S n p → Held q n p
      go n p (enters e b) = absurd ((h.entering n).0 e)
      go n p (stays s d) = t.to n p s
      go n p (rises r c e s w b) = absurd (h.rising.0 e)

      spares : (p : ℕ) → Spares A k p
      spares p = record { not_displaced = λ n e. absurd ((h.entering n).0 e); not_raised = h.rising.0; not_taken = λ e. absurd (h.taking.0 e); not_emptied = h.emptying.0 }

  pub tie_step : (x : Act) → Here A k x → ((m : ℕ) → IsEnter x m → (f < m) × (m ≤ g)) → Tie (Next A k S) (acted q x) g
  tie_step (enter m) h e = tie_enter m (e m refl).0 (e m refl).1 h
  tie_step rise h e = tie_rise h
  tie_step take h e = tie_take h
  tie_step empty h e = tie_empty h
  tie_step nothing h e = tie_nothing h

-- acts that can be told apart, and whose entering numbers rise: at moment k none is above `bound k`
pub record Sane (A : Acts) (act : ℕ → Act) (bound : ℕ → ℕ) : Type 0 where
  pub here : (k : ℕ) → Here A k (act k)
  pub grows : (k : ℕ) → bound k ≤ bound (suc k)
  pub fresh : (k m : ℕ) → IsEnter (act k) m → (bound k < m) × (m ≤ bound (suc k))

none_held : (n p : ℕ) → Held (queue_of None None None) n p → ⊥
none_held n p (inl h) = h.1
none_held n p (inr (inl h)) = h.1
none_held n p (inr (inr h)) = h.1

-- the executable queue holds exactly those who stand
pub tie : (A : Acts) (act : ℕ → Act) (bound : ℕ → ℕ) → Sane A act bound → (k : ℕ) → Tie (Stands A k) (queue_at act k) (bound k)
tie A act bound s zero = record { to = λ n p h. absurd h; from = λ n p h. absurd (none_held n p h); ordered = (tt, tt, tt, tt, tt, tt) }
tie A act bound s (suc k) =
    tie_step A k (Stands A k) (queue_at act k) (bound k) (bound (suc k)) (tie A act bound s k) (s.grows k) (act k) (s.here k) (s.fresh k)

-- no act is two things: each has a kind of its own

kind_of : Act → ℕ
kind_of (enter m) = 0
kind_of rise = 1
kind_of take = 2
kind_of empty = 3
kind_of nothing = 4

enter_kind : (x : Act) (m : ℕ) → IsEnter x m → kind_of x ≡ 0
unfolding kind_of
enter_kind (enter n) m h = refl
enter_kind rise m h = absurd h
enter_kind take m h = absurd h
enter_kind empty m h = absurd h
enter_kind nothing m h = absurd h

rise_kind : (x : Act) → IsRise x → kind_of x ≡ 1
unfolding kind_of
rise_kind (enter n) h = absurd h
rise_kind rise h = refl
rise_kind take h = absurd h
rise_kind empty h = absurd h
rise_kind nothing h = absurd h

take_kind : (x : Act) → IsTake x → kind_of x ≡ 2
unfolding kind_of
take_kind (enter n) h = absurd h
take_kind rise h = absurd h
take_kind take h = refl
take_kind empty h = absurd h
take_kind nothing h = absurd h

empty_kind : (x : Act) → IsEmpty x → kind_of x ≡ 3
unfolding kind_of
empty_kind (enter n) h = absurd h
empty_kind rise h = absurd h
empty_kind take h = absurd h
empty_kind empty h = refl
empty_kind nothing h = absurd h

-- the life of a queue, once for all acts
module _ (A : Acts) (act : ℕ → Act) (bound : ℕ → ℕ) (s : Sane A act bound) where
  entering : (k m : ℕ) → A.Enters k m → kind_of (act k) ≡ 0
  entering k m e = enter_kind (act k) m (((s.here k).entering m).0 e)

  raising : (k : ℕ) → A.Rises k → kind_of (act k) ≡ 1
  raising k e = rise_kind (act k) ((s.here k).rising.0 e)

  taking : (k : ℕ) → A.Takes k → kind_of (act k) ≡ 2
  taking k e = take_kind (act k) ((s.here k).taking.0 e)

  emptying : (k : ℕ) → A.Empties k → kind_of (act k) ≡ 3
  emptying k e = empty_kind (act k) ((s.here k).emptying.0 e)

  -- who stands was given a number
  pub counted : (k n p : ℕ) → Stands A k n p → (1 ≤ n) × (n ≤ bound k)
  counted k n p h = let t = tie A act bound s k in range _ _ _ _ n p t.ordered (t.to n p h)

  -- nobody stands in two places
  pub placed : (k n p q : ℕ) → Stands A k n p → Stands A k n q → p ≡ q
  placed k n p q h i = let t = tie A act bound s k in one_place _ _ _ _ n p q t.ordered (t.to n p h) (t.to n q i)

  -- the older ones are ahead
  pub ahead : (k n m p q : ℕ) → Stands A k n p → Stands A k m q → p < q → m < n
  ahead k n m p q h i = let t = tie A act bound s k in order _ _ _ _ n m p q t.ordered (t.to n p h) (t.to m q i)

  -- no two stand in one place
  pub alone : (k n m p : ℕ) → Stands A k n p → Stands A k m p → n ≡ m
  alone k n m p h i = let t = tie A act bound s k in here _ _ _ n m p p (t.to n p h) (t.to m p i) refl

  -- who stands leaves by the next act, or stands after it
  pub goes : (k n p : ℕ) → Stands A k n p → ((w : Way) × Left A k n w) ⊎ ((q : ℕ) × Stands A (suc k) n q)
  goes k n p h = go (act k) (s.here k)
    where
      at : (q : ℕ) → p ≡ q → Stands A k n q
      at q e = let P : ℕ → Type 0 = λ x. Stands A k n x in subst P e h

      first : (m : ℕ) → Here A k (enter m) → Dec (p ≡ 1) → ((w : Way) × Left A k n w) ⊎ ((q : ℕ) × Stands A (suc k) n q)
      first m x (yes e) = inl (Displaced, was_displaced m (at 1 e) ((x.entering m).1 refl))
      first m x (no d) = inr (p, stays h (record { not_displaced = λ n e. d; not_raised = x.rising.0; not_taken = λ e. absurd (x.taking.0 e); not_emptied = x.emptying.0 }))

      last : Here A k take → Dec (p ≡ 3) → ((w : Way) × Left A k n w) ⊎ ((q : ℕ) × Stands A (suc k) n q)
      last x (yes e) = inl (Taken, was_taken (at 3 e) (x.taking.1 tt))
      last x (no d) = inr (p, stays h (record { not_displaced = λ n e. absurd ((x.entering n).0 e); not_raised = x.rising.0; not_taken = λ e. d; not_emptied = x.emptying.0 }))

      go : (a : Act) → Here A k a → ((w : Way) × Left A k n w) ⊎ ((q : ℕ) × Stands A (suc k) n q)
      go (enter m) x = first m x (ℕ_discrete p 1)
      go rise x =
          let w = climb A k (Stands A k) (queue_at act k) (bound k) (bound (suc k)) (tie A act bound s k) (s.grows k) n p h in
          inr (w.0, rises p w.1 (x.rising.1 tt) h w.2 w.3)
      go take x = last x (ℕ_discrete p 3)
      go empty x = inl (Emptied, was_emptied p h (x.emptying.1 tt))
      go nothing x = inr (p, stays h (record { not_displaced = λ n e. absurd ((x.entering n).0 e); not_raised = x.rising.0; not_taken = λ e. absurd (x.taking.0 e); not_emptied = x.emptying.0 }))

  -- who enters is newer than all that were given a number before
  pub new : (k n : ℕ) → A.Enters k n → (bound k < n) × (n ≤ bound (suc k))
  new k n e = s.fresh k n (((s.here k).entering n).0 e)

  -- who stands stood before, unless it is new
  pub was : (k n p : ℕ) → n ≤ bound k → Stands A (suc k) n p → (q : ℕ) × Stands A k n q
  was k n p u (enters e b) = absurd (omega (arith, (new k n e).0, u))
  was k n p u (stays h d) = (p, h)
  was k n p u (rises q c e h w b) = (q, h)

  -- who leaves stood
  pub stood : (k n : ℕ) (w : Way) → Left A k n w → (p : ℕ) × Stands A k n p
  stood k n w (was_displaced m h e) = (1, h)
  stood k n w (was_taken h e) = (3, h)
  stood k n w (was_emptied p h e) = (p, h)

  -- who leaves does not stand after
  pub stops : (k n p : ℕ) (w : Way) → Left A k n w → Stands A (suc k) n p → ⊥
  stops k n p w l (enters e b) = let h = stood k n w l in omega (arith, (counted k n h.0 h.1).1, (new k n e).0)
  stops k n p w (was_displaced m h e) (stays i d) = d.not_displaced m e (placed k n p 1 i h)
  stops k n p w (was_taken h e) (stays i d) = d.not_taken e (placed k n p 3 i h)
  stops k n p w (was_emptied q h e) (stays i d) = d.not_emptied e
  stops k n p w (was_displaced m h e) (rises q c r i x b) = omega (arith, entering k m e, raising k r)
  stops k n p w (was_taken h e) (rises q c r i x b) = omega (arith, taking k e, raising k r)
  stops k n p w (was_emptied o h e) (rises q c r i x b) = omega (arith, emptying k e, raising k r)

  -- who leaves by an act leaves in one way
  pub one_leaving : (k n : ℕ) (v w : Way) → Left A k n v → Left A k n w → v ≡ w
  one_leaving k n v w (was_displaced m h e) (was_displaced o i f) = refl
  one_leaving k n v w (was_displaced m h e) (was_taken i f) = absurd (omega (arith, entering k m e, taking k f))
  one_leaving k n v w (was_displaced m h e) (was_emptied p i f) = absurd (omega (arith, entering k m e, emptying k f))
  one_leaving k n v w (was_taken h e) (was_displaced o i f) = absurd (omega (arith, entering k o f, taking k e))
  one_leaving k n v w (was_taken h e) (was_taken i f) = refl
  one_leaving k n v w (was_taken h e) (was_emptied p i f) = absurd (omega (arith, taking k e, emptying k f))
  one_leaving k n v w (was_emptied q h e) (was_displaced o i f) = absurd (omega (arith, entering k o f, emptying k e))
  one_leaving k n v w (was_emptied q h e) (was_taken i f) = absurd (omega (arith, taking k f, emptying k e))
  one_leaving k n v w (was_emptied q h e) (was_emptied p i f) = refl

  -- numbers are given out in order
  pub bounds : (j k : ℕ) → j ≤ k → bound j ≤ bound k
  bounds j zero h = let e : j ≡ 0 = omega arith in rw e (omega arith)
  bounds j (suc k) h = go (dec_le j k) (bounds j k)
    where
      go : Dec (j ≤ k) → (j ≤ k → bound j ≤ bound k) → bound j ≤ bound (suc k)
      go (yes l) ih = omega (arith, ih l, s.grows k)
      go (no l) ih = let e : j ≡ suc k = omega arith in rw e (omega arith)

  -- who stands at moment k, and is not newer than moment i, stood then
  back_to : (i k n p : ℕ) → i ≤ k → n ≤ bound i → Stands A k n p → (q : ℕ) × Stands A i n q
  back_to i zero n p l u h = absurd h
  back_to i (suc k) n p l u h = go (dec_le i k) (back_to i k)
    where
      go : Dec (i ≤ k) → ((n p : ℕ) → i ≤ k → n ≤ bound i → Stands A k n p → (q : ℕ) × Stands A i n q) → (q : ℕ) × Stands A i n q
      go (yes m) ih = let w = was k n p (omega (arith, u, bounds i k m)) h in ih n w.0 m u w.1
      go (no m) ih = let e : suc k ≡ i = omega arith in let P : ℕ → Type 0 = λ x. Stands A x n p in (p, subst P e h)

  -- places are at most 3
  low : (k n p : ℕ) → Held (queue_at act k) n p → p ≤ 3
  low k n p (inl h) = omega (arith, h.0)
  low k n p (inr (inl h)) = omega (arith, h.0)
  low k n p (inr (inr h)) = omega (arith, h.0)

  -- the output is taken in rising numbers
  pub taken_rise : (i j m n : ℕ) → i < j → Stands A i m 3 → A.Takes i → Stands A j n 3 → m < n
  taken_rise i j m n l h t o = go (dec_lt m n)
    where
      older : n ≤ m → (q : ℕ) × Stands A i n q
      older u = back_to i j n 3 (omega arith) (omega (arith, u, (counted i m 3 h).1)) o

      after : n ≤ m → (q : ℕ) × Stands A (suc i) n q
      after u = back_to (suc i) j n 3 (omega arith) (omega (arith, u, (counted i m 3 h).1, s.grows i)) o

      place : n ≤ m → (q : ℕ) → Stands A i n q → Dec (q < 3) → ⊥
      place u q x (yes y) = omega (arith, u, ahead i n m q 3 x h y)
      place u q x (no y) =
          let e : q ≡ 3 = omega (arith, y, low i n q ((tie A act bound s i).to n q x)) in
          let P : ℕ → Type 0 = λ q. Stands A i n q in
          let z = after u in stops i n z.0 Taken (was_taken (subst P e x) t) z.1

      go : Dec (m < n) → m < n
      go (yes y) = y
      go (no y) = let u : n ≤ m = omega arith in let x = older u in absurd (place u x.0 x.1 (dec_lt x.0 3))

  -- who has left does not stand again
  pub gone : (i k n p : ℕ) (w : Way) → Left A i n w → i < k → Stands A k n p → ⊥
  gone i k n p w l h x =
      let o = stood i n w l in
      let z = back_to (suc i) k n p (omega arith) (omega (arith, (counted i n o.0 o.1).1, s.grows i)) x in
      stops i n z.0 w l z.1

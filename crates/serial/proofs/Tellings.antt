-- What a queue tells at an act is exactly who left by it. Assumes nothing.
use Rattle.std.proofs.Common.{◌≡◌, ℕ, zero, suc, ◌<◌, ◌≤◌, eqb, ◌⊎◌, List, [], ◌∷◌, length, get_or, Some, None, Option, sym, refl, ap, ◌∙◌, subst, inl, inr, arith}
use Rattle.std.proofs.lemmas.Bool.{ne_eqb, cond-false}
use Rattle.serial.specs.declared.life.Way.{Way}
use Rattle.serial.specs.declared.life.Way.TheVariants.{Displaced, Taken, Emptied}
use Rattle.serial.specs.declared.queue.Queue.{Queue}
use Rattle.serial.specs.Queue.{queue_of, fields, waiting, with_number}
use Rattle.serial.specs.Life.{Acts, Stands, Left, was_displaced, was_taken, was_emptied}
use Rattle.serial.specs.Telling.{Names, InOrder, Tells}
use Rattle.serial.specs.Moves.{Act, enter, rise, take, empty, nothing, tells, tells_of, queue_at}
use Rattle.serial.proofs.Places.{Here, In, Held, Ordered, range}
use Rattle.serial.proofs.Standing.{Tie, Sane, tie}

-- n is in the list
abbrev Mem : ℕ → List ℕ → Type 0
Mem n [] = ⊥
Mem n (x ∷ xs) = (x ≡ n) ⊎ Mem n xs

-- the numbers are above lo, and rise
abbrev Up : ℕ → List ℕ → Type 0
Up lo [] = Unit {0}
Up lo (x ∷ xs) = (lo < x) × Up x xs

-- a number that stands in some field is in the list that fills the fields
mem_at : (ns : List ℕ) (i n : ℕ) → 1 ≤ n → get_or ns i 0 ≡ n → Mem n ns
mem_at [] i n l e = absurd (omega arith)
mem_at (x ∷ xs) zero n l e = inl e
mem_at (x ∷ xs) (suc i) n l e = inr (mem_at xs i n l e)

named_mem : (ns : List ℕ) (n : ℕ) → Names (fields ns) n → Mem n ns
named_mem ns n (l, inl e) = mem_at ns 0 n l e
named_mem ns n (l, inr (inl e)) = mem_at ns 1 n l e
named_mem ns n (l, inr (inr e)) = mem_at ns 2 n l e

-- and each of at most three stands in some field
mem_named : (ns : List ℕ) (n : ℕ) → length ns ≤ 3 → 1 ≤ n → Mem n ns → Names (fields ns) n
mem_named [] n s l m = absurd m
mem_named (x ∷ xs) n s l (inl e) = (l, inl e)
mem_named (x ∷ []) n s l (inr m) = absurd m
mem_named (x ∷ y ∷ ys) n s l (inr (inl e)) = (l, inr (inl e))
mem_named (x ∷ y ∷ []) n s l (inr (inr m)) = absurd m
mem_named (x ∷ y ∷ z ∷ zs) n s l (inr (inr (inl e))) = (l, inr (inr e))
mem_named (x ∷ y ∷ z ∷ []) n s l (inr (inr (inr m))) = absurd m
mem_named (x ∷ y ∷ z ∷ w ∷ ws) n s l (inr (inr (inr m))) = absurd (omega arith)

-- rising numbers stand in the fields in order
up_order : (ns : List ℕ) → Up 0 ns → InOrder (fields ns)
up_order [] u = record { second = λ h. absurd (omega arith); third = λ h. absurd (omega arith) }
up_order (x ∷ []) u = record { second = λ h. absurd (omega arith); third = λ h. absurd (omega arith) }
up_order (x ∷ y ∷ []) u = record { second = λ h. (omega arith, omega arith); third = λ h. absurd (omega arith) }
up_order (x ∷ y ∷ z ∷ zs) u = record { second = λ h. (omega arith, omega arith); third = λ h. (omega arith, omega arith) }

-- what stands in a place is in the list that it is put before, and nothing else is new there
mem_with : (o : Option ℕ) (ns : List ℕ) (n : ℕ) → Mem n (with_number (λ n. n) o ns) → In o n ⊎ Mem n ns
mem_with None ns n m = inr m
mem_with (Some x) ns n m = m

with_mem : (o : Option ℕ) (ns : List ℕ) (n : ℕ) → In o n ⊎ Mem n ns → Mem n (with_number (λ n. n) o ns)
with_mem None ns n (inl h) = absurd h
with_mem None ns n (inr m) = m
with_mem (Some x) ns n m = m

-- who waits in the places
abbrev those : Option ℕ → Option ℕ → Option ℕ → List ℕ
those a b c = waiting (λ n. n) (queue_of a b c)

length_with : (o : Option ℕ) (ns : List ℕ) (k : ℕ) → length ns ≤ k → length (with_number (λ n. n) o ns) ≤ suc k
length_with None ns k h = omega arith
length_with (Some x) ns k h = omega arith

few : (a b c : Option ℕ) → length (those a b c) ≤ 3
few a b c = length_with c _ 2 (length_with b _ 1 (length_with a [] 0 (omega arith)))

-- who waits is held in some place
waits_held : (a b c : Option ℕ) (n : ℕ) → Mem n (those a b c) → (p : ℕ) × Held (queue_of a b c) n p
waits_held a b c n m = third (mem_with c (with_number (λ n. n) b (with_number (λ n. n) a [])) n m)
  where
    first : In a n ⊎ Mem n [] → (p : ℕ) × Held (queue_of a b c) n p
    first (inl h) = (1, inl (refl, h))
    first (inr m) = absurd m

    second : In b n ⊎ Mem n (with_number (λ n. n) a []) → (p : ℕ) × Held (queue_of a b c) n p
    second (inl h) = (2, inr (inl (refl, h)))
    second (inr m) = first (mem_with a [] n m)

    third : In c n ⊎ Mem n (with_number (λ n. n) b (with_number (λ n. n) a [])) → (p : ℕ) × Held (queue_of a b c) n p
    third (inl h) = (3, inr (inr (refl, h)))
    third (inr m) = second (mem_with b (with_number (λ n. n) a []) n m)

-- who is held waits
held_waits : (a b c : Option ℕ) (n p : ℕ) → Held (queue_of a b c) n p → Mem n (those a b c)
held_waits a b c n p (inl h) = with_mem c _ n (inr (with_mem b _ n (inr (with_mem a [] n (inl h.1)))))
held_waits a b c n p (inr (inl h)) = with_mem c _ n (inr (with_mem b _ n (inl h.1)))
held_waits a b c n p (inr (inr h)) = with_mem c _ n (inl h.1)

-- the older ones come first
oldest_first : (a b c : Option ℕ) (f : ℕ) → Ordered a b c f → Up 0 (those a b c)
oldest_first None None None f o = tt
oldest_first (Some x) None None f o = (omega (arith, o.0), tt)
oldest_first None (Some y) None f o = (omega (arith, o.1), tt)
oldest_first None None (Some z) f o = (omega (arith, o.2), tt)
oldest_first (Some x) (Some y) None f o = (omega (arith, o.1), (omega (arith, o.3), tt))
oldest_first (Some x) None (Some z) f o = (omega (arith, o.2), (omega (arith, o.4), tt))
oldest_first None (Some y) (Some z) f o = (omega (arith, o.2), (omega (arith, o.5), tt))
oldest_first (Some x) (Some y) (Some z) f o = (omega (arith, o.2), (omega (arith, o.5), (omega (arith, o.3), tt)))

-- where somebody is named the code is not `None`
code_of : (w : Way) (ns : List ℕ) (n : ℕ) → Up 0 ns → Mem n ns → (tells w (fields ns)).way ≡ Some w
code_of w [] n u m = absurd m
code_of w (x ∷ xs) n u m = cond-false (eqb x 0) None (Some w) (ne_eqb x 0 (λ e. omega (arith, u.0)))

-- where nobody is, it is
code_none : (w : Way) (ns : List ℕ) → ((n : ℕ) → Mem n ns → ⊥) → (tells w (fields ns)).way ≡ None
code_none w [] h = refl
code_none w (x ∷ xs) h = absurd (h x (inl refl))

some_same : (v w : Way) → ◌≡◌ {A = Option Way} (Some v) (Some w) → v ≡ w
some_same v w e = cc

-- if what happened is that those in the places left in one way, then this is told
module _ (w : Way) (a b c : Option ℕ) (f : ℕ) (o : Ordered a b c f) (H : ℕ → Way → Type 0) (to : (n : ℕ) (v : Way) → H n v → (v ≡ w) × ((p : ℕ) × Held (queue_of a b c) n p)) (from : (n p : ℕ) → Held (queue_of a b c) n p → H n w) where
  happened : (n : ℕ) → Names (fields (those a b c)) n → H n w
  happened n h = let k = waits_held a b c n (named_mem (those a b c) n h) in from n k.0 k.1

  naming : (n : ℕ) (v : Way) → H n v → Names (fields (those a b c)) n
  naming n v h =
      let t = to n v h in
      mem_named (those a b c) n (few a b c) (range a b c f n t.1.0 o t.1.1).0 (held_waits a b c n t.1.0 t.1.1)

  code : (n : ℕ) → Names (fields (those a b c)) n → (tells w (fields (those a b c))).way ≡ Some w
  code n h = code_of w (those a b c) n (oldest_first a b c f o) (named_mem (those a b c) n h)

  pub those_told : Tells Some None H (tells w (fields (those a b c))).way (fields (those a b c))
  those_told = record {
    told = λ n v. (
      (λ h. (naming n v h, code n (naming n v h) ∙ ap Some (sym (to n v h).0))),
      (λ h. let P : Way → Type 0 = λ x. H n x in subst P (some_same w v (sym (code n h.0) ∙ h.1)) (happened n h.0)),
    );
    named = λ n h. (w, happened n h);
    quiet = λ none. code_none w (those a b c) (λ n m. let k = waits_held a b c n m in none n w (from n k.0 k.1));
    in_order = up_order (those a b c) (oldest_first a b c f o);
  }

-- held in place 1, and in place 3
held_one : (q : Queue ℕ) (n : ℕ) → Held q n 1 → In q.one n
held_one q n (inl h) = h.1
held_one q n (inr (inl h)) = absurd (omega (arith, h.0))
held_one q n (inr (inr h)) = absurd (omega (arith, h.0))

held_three : (q : Queue ℕ) (n : ℕ) → Held q n 3 → In q.three n
held_three q n (inl h) = absurd (omega (arith, h.0))
held_three q n (inr (inl h)) = absurd (omega (arith, h.0))
held_three q n (inr (inr h)) = h.1

-- held where only place 3 is full
held_only : (o : Option ℕ) (n p : ℕ) → Held (queue_of None None o) n p → In o n
held_only o n p (inl h) = absurd h.1
held_only o n p (inr (inl h)) = absurd h.1
held_only o n p (inr (inr h)) = h.1

module _ (A : Acts) (k : ℕ) (q : Queue ℕ) (f : ℕ) (t : Tie (Stands A k) q f) where
  abbrev Exactly : Act → Type 0
  Exactly x = Tells Some None (Left A k) (tells_of q x).way (tells_of q x).who

  told_enter : (m : ℕ) → Here A k (enter m) → Exactly (enter m)
  told_enter m x = those_told Displaced None None q.one f (tt, tt, t.ordered.0, tt, tt, tt) (Left A k) to from
    where
      to : (n : ℕ) (v : Way) → Left A k n v → (v ≡ Displaced) × ((p : ℕ) × Held (queue_of None None q.one) n p)
      to n v (was_displaced i h e) = (refl, (3, inr (inr (refl, held_one q n (t.to n 1 h)))))
      to n v (was_taken h e) = absurd (x.taking.0 e)
      to n v (was_emptied p h e) = absurd (x.emptying.0 e)

      from : (n p : ℕ) → Held (queue_of None None q.one) n p → Left A k n Displaced
      from n p h = was_displaced m (t.from n 1 (inl (refl, held_only q.one n p h))) ((x.entering m).1 refl)

  told_take : Here A k take → Exactly take
  told_take x = those_told Taken None None q.three f (tt, tt, t.ordered.2, tt, tt, tt) (Left A k) to from
    where
      to : (n : ℕ) (v : Way) → Left A k n v → (v ≡ Taken) × ((p : ℕ) × Held (queue_of None None q.three) n p)
      to n v (was_displaced i h e) = absurd ((x.entering i).0 e)
      to n v (was_taken h e) = (refl, (3, inr (inr (refl, held_three q n (t.to n 3 h)))))
      to n v (was_emptied p h e) = absurd (x.emptying.0 e)

      from : (n p : ℕ) → Held (queue_of None None q.three) n p → Left A k n Taken
      from n p h = was_taken (t.from n 3 (inr (inr (refl, held_only q.three n p h)))) (x.taking.1 tt)

  told_empty : Here A k empty → Exactly empty
  told_empty x = those_told Emptied q.one q.two q.three f t.ordered (Left A k) to from
    where
      to : (n : ℕ) (v : Way) → Left A k n v → (v ≡ Emptied) × ((p : ℕ) × Held q n p)
      to n v (was_displaced i h e) = absurd ((x.entering i).0 e)
      to n v (was_taken h e) = absurd (x.taking.0 e)
      to n v (was_emptied p h e) = (refl, (p, t.to n p h))

      from : (n p : ℕ) → Held q n p → Left A k n Emptied
      from n p h = was_emptied p (t.from n p h) (x.emptying.1 tt)

  -- where nobody enters, takes or empties, nobody leaves
  told_nothing : ((m : ℕ) → A.Enters k m → ⊥) → (A.Takes k → ⊥) → (A.Empties k → ⊥) → Exactly nothing
  told_nothing no_enter no_take no_empty = those_told Emptied None None None f (tt, tt, tt, tt, tt, tt) (Left A k) to from
    where
      to : (n : ℕ) (v : Way) → Left A k n v → (v ≡ Emptied) × ((p : ℕ) × Held (queue_of None None None) n p)
      to n v (was_displaced i h e) = absurd (no_enter i e)
      to n v (was_taken h e) = absurd (no_take e)
      to n v (was_emptied p h e) = absurd (no_empty e)

      from : (n p : ℕ) → Held (queue_of None None None) n p → Left A k n Emptied
      from n p h = absurd (held_only None n p h)

  pub told_at : (x : Act) → Here A k x → Exactly x
  told_at (enter m) x = told_enter m x
  told_at rise x = told_nothing (λ m. (x.entering m).0) x.taking.0 x.emptying.0
  told_at take x = told_take x
  told_at empty x = told_empty x
  told_at nothing x = told_nothing (λ m. (x.entering m).0) x.taking.0 x.emptying.0

-- in every life the queue tells at each act exactly who left by it
pub told_exactly : (A : Acts) (act : ℕ → Act) (bound : ℕ → ℕ) → Sane A act bound → (k : ℕ) → Tells Some None (Left A k) (tells_of (queue_at act k) (act k)).way (tells_of (queue_at act k) (act k)).who
told_exactly A act bound s k = told_at A k (queue_at act k) (bound k) (tie A act bound s k) (act k) (s.here k)

-- The act of an event on a queue, by four tests, and the ways to leave a queue. Assumes nothing.
use Rattle.std.proofs.Common.{◌≡◌, ℕ, Bool, true, false, ◌↔◌, Some, None, Option, refl, ap}
use Rattle.std.proofs.lemmas.Bool.{false≢true}
use Rattle.std.proofs.lemmas.Option.{same_Some, none-some}
use Rattle.serial.specs.declared.life.Way.{Way}
use Rattle.serial.specs.declared.life.Way.TheVariants.{Displaced, Taken, Emptied}
use Rattle.serial.specs.Life.{Acts}
use Rattle.serial.specs.Moves.{Act, enter, rise, take, empty, nothing}
use Rattle.serial.proofs.Places.{Here}

-- where nothing is emptied, risen or taken, a number may enter
abbrev pub act_of : Bool → Bool → Bool → Option ℕ → Act
act_of true i d o = empty
act_of false true d o = rise
act_of false false true o = take
act_of false false false None = nothing
act_of false false false (Some n) = enter n

-- the four tests say what event k does to the queue, and it does one thing at most
pub record Tests (A : Acts) (k : ℕ) (r i d : Bool) (o : Option ℕ) : Type 0 where
  pub empties : A.Empties k ↔ (r ≡ true)
  pub rises : A.Rises k ↔ (i ≡ true)
  pub takes : A.Takes k ↔ (d ≡ true)
  pub enters : (n : ℕ) → A.Enters k n ↔ (o ≡ Some n)
  pub rise_or_empty : A.Rises k → A.Empties k → ⊥
  pub take_or_empty : A.Takes k → A.Empties k → ⊥
  pub take_or_rise : A.Takes k → A.Rises k → ⊥
  pub enter_or_empty : (n : ℕ) → A.Enters k n → A.Empties k → ⊥
  pub enter_or_rise : (n : ℕ) → A.Enters k n → A.Rises k → ⊥
  pub enter_or_take : (n : ℕ) → A.Enters k n → A.Takes k → ⊥

-- so event k is the act of the tests, and nothing else
module _ (A : Acts) (k : ℕ) where
  pub acts : (r i d : Bool) (o : Option ℕ) → Tests A k r i d o → Here A k (act_of r i d o)
  acts true i d o t = let e = t.empties.1 refl in record {
    entering = λ n. (λ x. t.enter_or_empty n x e, λ x. absurd x);
    rising = (λ x. t.rise_or_empty x e, λ x. absurd x);
    taking = (λ x. t.take_or_empty x e, λ x. absurd x);
    emptying = (λ x. tt, λ x. e);
  }
  acts false true d o t = let e = t.rises.1 refl in record {
    entering = λ n. (λ x. t.enter_or_rise n x e, λ x. absurd x);
    rising = (λ x. tt, λ x. e);
    taking = (λ x. t.take_or_rise x e, λ x. absurd x);
    emptying = (λ x. false≢true (t.empties.0 x), λ x. absurd x);
  }
  acts false false true o t = let e = t.takes.1 refl in record {
    entering = λ n. (λ x. t.enter_or_take n x e, λ x. absurd x);
    rising = (λ x. false≢true (t.rises.0 x), λ x. absurd x);
    taking = (λ x. tt, λ x. e);
    emptying = (λ x. false≢true (t.empties.0 x), λ x. absurd x);
  }
  acts false false false None t = record {
    entering = λ n. (λ x. none-some n ((t.enters n).0 x), λ x. absurd x);
    rising = (λ x. false≢true (t.rises.0 x), λ x. absurd x);
    taking = (λ x. false≢true (t.takes.0 x), λ x. absurd x);
    emptying = (λ x. false≢true (t.empties.0 x), λ x. absurd x);
  }
  acts false false false (Some m) t = record {
    entering = λ n. (λ x. same_Some m n ((t.enters n).0 x), λ x. (t.enters n).1 (ap Some x));
    rising = (λ x. false≢true (t.rises.0 x), λ x. absurd x);
    taking = (λ x. false≢true (t.takes.0 x), λ x. absurd x);
    emptying = (λ x. false≢true (t.empties.0 x), λ x. absurd x);
  }

-- the ways to leave a queue, by number, which tells them apart
abbrev pub way_no : Way → ℕ
way_no Displaced = 0
way_no Taken = 1
way_no Emptied = 2

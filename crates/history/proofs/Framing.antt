-- The character that a received bit frames in the adapter is the one that the rules frame. Assumes nothing.
use Rattle.std.proofs.Common.{◌≡◌, ℕ, suc, ◌+◌, ◌<◌, Bool, true, false, cond, leb, Some, None, refl, ap, ◌∙◌, subst, arith}
use Rattle.std.proofs.lemmas.Bool.Decides.{nat_tests}
use Rattle.std.proofs.lemmas.Option.{same_Some}
use Rattle.serial.specs.Words.{read_of}
use Rattle.ssda.specs.declared.front.Front.{Front}
use Rattle.ssda.specs.declared.receiver.Character.{Character}
use Rattle.ssda.specs.declared.receiver.LineEvent.TheVariants.{Bit}
use Rattle.ssda.specs.declared.receiver.Phase as chip
use Rattle.ssda.specs.Front.{off_of, framed_front, heard_front, strips_of}
use Rattle.ssda.specs.Receiver as rcv
use Rattle.history.specs.Events.{received}
use Rattle.history.specs.Settings.{History, form}
use Rattle.history.specs.Lines.{limit, T, last_bits, Frames, byte_framed, mark_framed, strips}
use Rattle.history.specs.Answering.{WritesBytes, state_at, phase_of}
use Rattle.history.proofs.Receiving.{ends_at, frame_at, frames_to, frames_from}
use Rattle.history.proofs.Tied.{tied, off_now, form_now}
use Rattle.history.proofs.TiedReceiver.{heard, last_of, match_of_lem}

-- a bit frames a character exactly when it ends one in sync
ends_framed : (p : chip.Phase) (count n t : ℕ) (m one : Bool) → ends_at (phase_of p count) n true t ≡ cond (rcv.turn_of p (Bit (leb t (count + 1))) m one count).framed (Some (n + 1)) None
ends_framed p count n t m one = grind (arith, nat_tests)

-- where a bit frames a character, the match that the receiver shows is that of its last bits
framed_match : (p : chip.Phase) (count : ℕ) (m one ends : Bool) → (rcv.turn_of p (Bit ends) m one count).framed ≡ true → (rcv.turn_of p (Bit ends) m one count).matched ≡ m
framed_match p count m one ends e = grind arith

-- event k is the received bit b, and there is a number for what it frames
module _ (E : History) (bytes : WritesBytes E) (k b : ℕ) (came : received (E k) ≡ Some b) (room : (state_at E k).front.receiver.framed < limit) where
  abbrev f : Front
  f = (state_at E k).front

  -- whether the chip frames a character by this bit
  abbrev framed_now : Bool
  framed_now = (rcv.turn_at f.receiver b f.setup.form f.code f.setup.one_sync).framed

  -- the character c that the adapter frames is the one that the rules frame
  pub record FramedAs (c : Character) : Type 0 where
    pub frames : Frames E k c.number
    pub strips_same : strips_of (heard_front f b) ≡ strips E k
    pub byte : c.byte ≡ byte_framed E k
    pub mark : c.mark ≡ mark_framed E k

  -- on: the number by the rules
  number_on : off_of f ≡ false → frame_at E k ≡ cond framed_now (Some (f.receiver.framed + 1)) None
  number_on on = grind (arith, nat_tests, heard, off_now, form_now, ends_framed)

  -- off: none
  number_off : off_of f ≡ true → frame_at E k ≡ None
  number_off is_off = grind (arith, off_now E bytes k)

  -- the character that the chip then makes, and that it is the one of the rules
  abbrev made : Character
  made = rcv.character_of (f.receiver.framed + 1) f.setup.form (rcv.last_bits f.receiver b f.setup.form)

  made_frames : off_of f ≡ false → framed_now ≡ true → Frames E k (f.receiver.framed + 1)
  made_frames on now = frames_from E k (f.receiver.framed + 1) (number_on on ∙ ap (λ t. cond t (Some (f.receiver.framed + 1)) None) now)

  made_strips : off_of f ≡ false → framed_now ≡ true → strips_of (heard_front f b) ≡ strips E k
  made_strips on now = grind (arith, heard, framed_match, match_of_lem, tied)

  made_read : off_of f ≡ false → read_of f.setup.form (rcv.last_bits f.receiver b f.setup.form) ≡ read_of (form E k) (last_bits E (suc k) (T E k))
  made_read on = grind (arith, heard, form_now, last_of)

  made_as : off_of f ≡ false → framed_now ≡ true → FramedAs made
  made_as on now = record {
    frames = made_frames on now;
    strips_same = made_strips on now;
    byte = ap (λ r. r.0) (made_read on);
    mark = ap (λ r. r.1) (made_read on);
  }

  -- what the adapter frames is what the rules frame
  pub framed_some : (c : Character) → framed_front f b ≡ Some c → FramedAs c
  framed_some c h = go (off_of f) refl framed_now refl h
    where
      go : (o : Bool) → off_of f ≡ o → (t : Bool) → framed_now ≡ t → cond o None (cond t (Some made) None) ≡ Some c → FramedAs c
      go true e t i h = cc
      go false e true i h = subst FramedAs (same_Some _ _ h) (made_as e i)
      go false e false i h = cc

  -- and where it frames nothing, neither do they
  pub framed_none : framed_front f b ≡ None → (n : ℕ) → Frames E k n → ⊥
  framed_none h n x = grind (arith, number_off, number_on, frames_to E k n x)

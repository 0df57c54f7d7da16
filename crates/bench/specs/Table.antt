-- The tables of examples, and that all of them hold. Assumes nothing.
use Rattle.std.specs.Prelude.{ℕ, List, [], ◌∷◌, codes, map, get_or}
use Rattle.std.specs.List.{AllByRecursion}
use Rattle.std.specs.Borrow.{Bor}
use Rattle.bench.specs.declared.script.Example.{Example}
use Rattle.bench.specs.declared.script.Line.{Line}
use Rattle.bench.specs.Bench.{Holds, new_seen}
use Rattle.bench.specs.Worked as rule
use Rattle.bench.specs.Further as more

-- an example: the characters of its title, and its script
pub record Entry : Type 0 where
  pub title : List ℕ
  pub script : List Line

abbrev pub entry : List ℕ → List Line → Entry
entry t ls = record { title = t; script = ls }

abbrev pub entry_of : Example → Entry
entry_of e = entry e.title.now e.script.now

-- the script in that row of a table, counted from 0; empty, as no script of the tables is, where there is no such row
abbrev pub script_at : ℕ → List (Bor Example) → List Line
script_at k es = get_or (map (λ e. e.now.script.now) es) k []

-- the worked examples of the rules, and further ones
abbrev pub worked : List Entry
worked =
    entry (codes "41h in 7 with even parity is 10000010") rule.seven_with_even ∷
    entry (codes "41h in 7 with odd parity is 10000011") rule.seven_with_odd ∷
    entry (codes "FFh in 6 with odd parity is 1111111") rule.six_with_odd ∷
    entry (codes "the sync fill 16h in form 000 is 0110100") rule.sync_fill_of_seven ∷
    entry (codes "the sync fill 16h in form 110 is 011010001") rule.sync_fill_of_nine ∷
    entry (codes "the mark fill in form 110 is nine ones, and TUF stays 0") rule.mark_fill ∷
    entry (codes "a new Status is 00h; after C1 = 00h it is 02h, and after C1 = 10h 82h") rule.new_status ∷
    entry (codes "form 011, 1-sync, code 7Fh, restart, one bit 0: in sync") rule.one_bit_to_sync ∷
    entry (codes "form 011, code 16h, two sync codes asked for: after 16h, 16h comes 41h as number 1") rule.two_sync_codes ∷
    entry (codes "set up like that, 16h, 41h, 16h, 16h: in sync, and nothing framed") rule.second_is_no_sync_code ∷
    entry (codes "places 3, 2 and 1 hold 41h, 42h and 43h; 44h arrives: number 3 is lost") rule.newest_is_lost ∷
    entry (codes "loss, Status read, loss, data read, Status read: overrun still shows") rule.loss_after_status ∷
    entry (codes "C1 = 00h, C2 = 80h, CTS rises: Status 88h; after Clear CTS 08h") rule.cts_is_stored ∷
    entry (codes "two transmit writes without an idle cycle: number 1 is overwritten") rule.overwritten ∷
    []

abbrev pub further : List Entry
further =
    entry (codes "after an overrun the first two characters and the last one are delivered") more.overrun_keeps_arriving ∷
    entry (codes "overrun comes with place 1 full even while places 2 and 3 are empty") more.overrun_with_empty_places ∷
    entry (codes "a second data read without an idle cycle repeats the last byte") more.second_read_repeats ∷
    entry (codes "a data read without a Status read before it clears no overrun") more.unarmed_overrun_stays ∷
    entry (codes "while RESET is low EIE stays 0, whatever is written") more.reset_low_holds_error_enable ∷
    entry (codes "while RESET is low PC1 and PC2 stay 0, so SM/DTR is high") more.reset_low_holds_pin_control ∷
    entry (codes "while RESET is low external stays 0") more.reset_low_holds_external ∷
    entry (codes "while RESET is low the sync code, Tx Sync and the form are written as ever") more.reset_low_writes_the_rest ∷
    entry (codes "while RESET is low a 0 written to Tx Rs empties nothing and a 1 empties") more.reset_low_ignores_zero_for_transmitter ∷
    entry (codes "RESET falling tells received, queued and shifted numbers together") more.reset_falling_tells_all ∷
    entry (codes "one write resets the receiver and the transmitter") more.both_resets_in_one_write ∷
    entry (codes "a transmitter reset clears three waiting bytes, oldest first") more.transmitter_reset_tells_three ∷
    entry (codes "writing a reset bit as 1 resets also when it was set already") more.reset_again_still_clears ∷
    entry (codes "the last byte taken outlives a receiver reset and RESET") more.last_byte_outlives_resets ∷
    entry (codes "in two-byte mode RDA needs places 2 and 3 full") more.two_byte_receive ∷
    entry (codes "in two-byte mode TDRA needs places 1 and 2 empty") more.two_byte_transmit ∷
    entry (codes "a stripped character gets a number and is no loss") more.stripped_without_parity ∷
    entry (codes "with nine bits the parity bit does not matter for stripping") more.stripped_with_nine_bits ∷
    entry (codes "six bits with right odd parity are delivered without mark") more.parity_right_six_odd ∷
    entry (codes "six bits with wrong even parity are delivered with the mark") more.parity_wrong_six_even ∷
    entry (codes "Status bit 6 shows the mark of the character in place 3 only") more.parity_mark_only_of_place_three ∷
    entry (codes "a longer form written in the middle of a character ends it later") more.form_longer_in_the_middle ∷
    entry (codes "a shorter form written in the middle of a character ends it at the next bit") more.form_shorter_in_the_middle ∷
    entry (codes "changing external while the receiver is on restarts it") more.external_changed_restarts ∷
    entry (codes "rewriting the same external does not restart the receiver") more.external_same_goes_on ∷
    entry (codes "while Clear Sync is set bits are ignored, and its end restarts the receiver") more.clear_sync_ignores_bits ∷
    entry (codes "a Status read and a data read clear the stored DCD, but the high level still shows") more.dcd_stored_and_level ∷
    entry (codes "DCD rising again drops the arm") more.dcd_rising_drops_arm ∷
    entry (codes "while DCD is high bits are ignored, and its fall restarts the receiver") more.dcd_high_ignores_bits ∷
    entry (codes "a sync fill pulses underflow and sets TUF, and CTUF clears it") more.underflow_and_clear ∷
    entry (codes "with seven bits and parity the sync fill is the code alone") more.sync_fill_seven_even ∷
    entry (codes "a loaded word keeps its length when the form is changed") more.word_keeps_length ∷
    entry (codes "each bit of a sent byte has code 1, the last one code 2") more.sent_byte_codes ∷
    entry (codes "CTS rising cuts the byte that is being shifted, and held clocks show 1") more.cts_cuts_shifted_byte ∷
    entry (codes "CTS rising leaves the queue alone, and after its fall the next byte is sent") more.cts_keeps_queue ∷
    entry (codes "CTS rising cuts also a byte of which no bit was shown, and tells nothing of a fill") more.cts_cuts_loaded_byte ∷
    entry (codes "with external a high CTS leaves TDRA alone") more.cts_with_external_keeps_tdra ∷
    entry (codes "CTS rising is stored also while Tx Rs is set, and a transmitter reset clears it") more.cts_stored_while_reset ∷
    entry (codes "with no match SM/DTR is high only with PC2 PC1 00") more.sm_dtr_settings ∷
    entry (codes "a match is remembered whatever PC2 and PC1 are and shows until the next bit") more.sm_dtr_match_until_next_bit ∷
    entry (codes "a match shows no more when the receiver goes off") more.sm_dtr_match_ends_with_off ∷
    entry (codes "with RIE the interrupt follows RDA") more.receiver_interrupt ∷
    entry (codes "with TIE the interrupt follows TDRA") more.transmitter_interrupt ∷
    entry (codes "with EIE an overrun interrupts until a Status read and a data read") more.overrun_interrupt ∷
    entry (codes "a RESET level equal to the present one resets nothing") more.same_reset_level ∷
    entry (codes "a read with register select 2 is refused, takes nothing and moves nothing") more.refused_read_select ∷
    entry (codes "a refused read neither clears nor drops an arm") more.refused_read_keeps_arm ∷
    entry (codes "a write with register select 2 is refused, writes nothing and takes no number") more.refused_write_select ∷
    entry (codes "a received bit 2 is refused and does not count") more.refused_bit ∷
    entry (codes "a pin level 2 is refused and changes no pin") more.refused_level ∷
    entry (codes "a level on pin 3 is refused by 2 and changes nothing") more.refused_pin ∷
    entry (codes "pin 3 with level 2 is refused by 2, pin 0 with level 2 by 1") more.refused_pin_before_level ∷
    []

-- by the definitions that the adapter's calls promise, all that must come in an example does come, on a new adapter
abbrev pub ComesRight : Entry → Type 0
ComesRight e = Holds new_seen e.script

pub record WorkedHold : Type 0 where
  pub each : AllByRecursion ComesRight worked

pub record FurtherHold : Type 0 where
  pub each : AllByRecursion ComesRight further

-- The print of 01's tape, that of a tape with past looks, that of one with a pair and that of one with two desks, shown of the definitions.
use mathlib.Core.Path.{◌≡◌, refl}
use Rattle.lists.specs.Lists.{filter, any, head_or, last_or, flat, run, between, contains, insert, without}
use Rattle.dominance.specs.Dominance.{higher, better, better_at, no_worse, some_better, dominates}
use Rattle.dominance.specs.Renewal.{quote_at, equal_columns, renewed}
use Rattle.skyline.specs.Skyline.{window_start, dominated_in, skyline}
use Rattle.skyline.specs.Past.{lower_end, upper_end}
use Rattle.refusals.specs.Refusals.{first_of, granted}
use Rattle.head.specs.Heads.{settings_hold}
use Rattle.head.specs.Desks.{record_of, desk_in, size_in, watch_of}
use Rattle.octets.specs.Bytes.{bytes2, bytes4, number2, number4}
use Rattle.frame_kinds.specs.Kinds.{kinds, shape_in, shape_of, length_of, body_length}
use Rattle.frames.specs.Frames.{frame, message_by, message_at, columns_at, stays, read_at, told_first, messages_from}
use Rattle.model.specs.Changes.{leave_kind_of, join_kind_of, missing, changes_by, changes, all_changes, pair_changes, frames}
use Rattle.model.specs.Shares.{of_desk, count_of, above_shares, desk_full}
use Rattle.model.specs.Rows.{is_live, live_rows}
use Rattle.model.specs.Reference.{unopened, ample, skyline_of, past_of, paired, pair_of, row_of, rows_of, head_of, is_open, outside, outside_past, outside_pair, with_quote, with_watched, with_pair_of, opening, too_short, tells, reference_step}
use Rattle.text.specs.Text.{digits_up_to, digits, field, line, line2}
use Rattle.line_changes.specs.Printed.{letter_of, change_line, change_lines, changes_text}
use Rattle.tape_asking.specs.Asking.{sized_asks, pair_asks, bare_asks, asks, in_place, placed, asked}
use Rattle.tape_model.specs.Print.{desk_line, lines_of, refusal_line, text_of}
use Rattle.tape_model.specs.Play.{play_asked, play_at, print_from, print, reference_make}
use Rattle.tape_model.specs.Worked.{worked_tape, worked_text, past_tape, past_text, pair_tape, pair_text, desks_tape, desks_text}

-- the reference model prints 01's tape as 02 says
pub worked_print : print is_open (reference_make ample) worked_tape unopened ≡ worked_text
unfolding filter any head_or last_or flat run between contains insert
    higher better better_at no_worse some_better dominates quote_at equal_columns renewed window_start dominated_in skyline lower_end upper_end
    first_of granted settings_hold record_of desk_in size_in watch_of bytes2 bytes4 number2 number4 kinds shape_in shape_of length_of body_length frame message_by message_at columns_at stays read_at told_first messages_from
    leave_kind_of join_kind_of of_desk count_of above_shares desk_full missing changes_by changes all_changes pair_changes frames skyline_of paired pair_of row_of rows_of is_live live_rows head_of is_open outside
    with_quote with_watched opening too_short tells reference_step
    digits_up_to digits field line letter_of change_line change_lines changes_text desk_line lines_of text_of
    sized_asks asks in_place placed asked play_asked play_at print_from print reference_make
worked_print = refl

-- and the tape with past looks
pub past_print_lem : print is_open (reference_make ample) past_tape unopened ≡ past_text
unfolding filter any head_or last_or flat run between contains insert
    higher better better_at no_worse some_better dominates quote_at equal_columns renewed window_start dominated_in skyline lower_end upper_end
    first_of granted settings_hold bytes2 bytes4 number2 number4 kinds shape_in shape_of length_of body_length frame message_by message_at columns_at stays read_at told_first messages_from
    missing changes_by changes all_changes pair_changes frames skyline_of past_of paired pair_of row_of rows_of is_live live_rows head_of is_open outside outside_past
    with_quote with_watched opening too_short tells reference_step
    digits_up_to digits field line letter_of change_line change_lines changes_text lines_of text_of
    sized_asks pair_asks asks in_place placed asked play_asked play_at print_from print reference_make
past_print_lem = refl

-- and the tape with a pair
pub pair_print_lem : print is_open (reference_make ample) pair_tape unopened ≡ pair_text
unfolding filter any head_or last_or flat run between contains insert
    higher better better_at no_worse some_better dominates quote_at equal_columns renewed window_start dominated_in skyline lower_end upper_end
    first_of granted settings_hold bytes2 bytes4 number2 number4 kinds shape_in shape_of length_of body_length frame message_by message_at columns_at stays read_at told_first messages_from
    missing changes_by changes all_changes pair_changes frames skyline_of past_of paired pair_of row_of rows_of is_live live_rows head_of is_open outside_pair
    with_quote with_pair_of opening too_short tells reference_step
    digits_up_to digits field line line2 letter_of change_line change_lines changes_text lines_of text_of
    pair_asks bare_asks asks in_place placed asked play_asked play_at print_from print reference_make
pair_print_lem = refl

-- and the tape with two desks
pub desks_print_lem : print is_open (reference_make ample) desks_tape unopened ≡ desks_text
unfolding filter any head_or last_or flat run between contains insert without
    higher better better_at no_worse some_better dominates quote_at equal_columns renewed window_start dominated_in skyline lower_end upper_end
    first_of granted settings_hold record_of desk_in size_in watch_of bytes2 bytes4 number2 number4 kinds shape_in shape_of length_of body_length frame message_by message_at columns_at stays read_at told_first messages_from
    leave_kind_of join_kind_of of_desk count_of above_shares desk_full missing changes_by changes all_changes pair_changes frames skyline_of past_of paired pair_of row_of rows_of is_live live_rows head_of is_open outside outside_pair
    with_quote with_watched with_pair_of opening too_short tells reference_step
    digits_up_to digits field line line2 letter_of change_line change_lines changes_text desk_line lines_of refusal_line text_of
    sized_asks pair_asks asks in_place placed asked play_asked play_at print_from print reference_make
desks_print_lem = refl

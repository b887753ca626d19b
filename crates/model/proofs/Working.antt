-- The worked cases, by computation.
use Rattle.std.proofs.Common.{refl}
use Rattle.model.specs.Cases.{Starts, RowsTakenOrNot, WorkedCases}

starts : Starts
starts = record {
  none = refl;
  at_source = refl;
  at_station = refl;
  in_process = refl;
  processed = refl;
  at_destination = refl;
  home_bound = refl;
  home_processed = refl;
  unread = refl;
  waiting = refl;
  confirmed = refl;
  unread_at_station = refl;
  from_station = refl;
  mirror_at_source = refl;
  mirror_home_bound = refl;
}

rows : RowsTakenOrNot
rows = record {
  row_1 = (refl, refl);
  row_1_occupied = refl;
  row_1_at_mirror = refl;
  row_2 = ((refl, refl), (refl, refl));
  row_2_slot = refl;
  row_3 = ((refl, refl), (refl, refl));
  row_3_in_process = refl;
  row_4 = ((refl, refl), (refl, refl));
  row_4_slot = refl;
  row_5 = ((refl, refl), (refl, refl));
  row_5_at_mirror = refl;
  row_6 = ((refl, refl), (refl, refl));
  row_6_source = refl;
  row_7 = (refl, refl);
  row_7_at_work = refl;
  row_8 = (refl, refl);
  row_8_elsewhere = refl;
  row_9 = (refl, refl);
  row_9_at_mirror = refl;
  row_10 = refl;
  row_10_at_mirror = refl;
  row_11 = (refl, refl);
  row_11_slot = refl;
  row_11_unread = refl;
  row_12 = (refl, refl);
  row_12_lost = refl;
  row_13 = (refl, refl);
  row_13_idle = refl;
  row_14 = (refl, refl);
  row_14_processed = refl;
  row_17 = (refl, refl);
  row_17_no_reader = refl;
  row_18 = (refl, refl);
  row_18_confirmed = refl;
  row_19 = (refl, refl);
  row_19_empty = refl;
  row_20 = (refl, refl);
  row_20_unread = refl;
  row_21 = (refl, refl);
  row_21_confirmed = refl;
}

pub worked_cases : WorkedCases
worked_cases = record {
  starts = starts;
  long_ids = refl;
  times = refl;
  straight = refl;
  back_unprocessed = ((refl, refl), (refl, refl));
  back_processed = ((refl, refl), (refl, refl));
  sixteen = refl;
  next_lift = refl;
  gone_silently = refl;
  two_free = refl;
  three_free = refl;
  rows = rows;
}

-- The laws of a window of time that goes.
use Rattle.stat_delta.proofs.WindowLaws.{key_change-window, change_by_window-old}
use Rattle.stat_delta.proofs.SpanRemovalLaws.{history_change-window}
use Rattle.stat_delta.proofs.laws.laws_of_windows.Goals as goal

pub returns : goal.returns
returns c = record {
  fewer = key_change-window;
  stays = change_by_window-old;
  goes = history_change-window;
}

-- The rows of the model that the rows of the code stand for.
use Rattle.model.specs.Rows.{Leg as Way, row2, row3, row4, row5, row6, Change as Row, row8, row10, row11, row12, row13, row14, row17, row18, row19, row20, row21, Exit as Gone, row7, row9}
use Rattle.texts.specs.Meaning.{spelled}
use Rattle.values.specs.Numbers.{processing_number, reading_number}
use Rattle.transitions.specs.declared.leg.Leg.{Leg}
use Rattle.transitions.specs.declared.leg.Leg.TheVariants as leg
use Rattle.transitions.specs.declared.change.Change.{Change}
use Rattle.transitions.specs.declared.change.Change.TheVariants as change
use Rattle.transitions.specs.declared.exit.Exit.{Exit}
use Rattle.transitions.specs.declared.exit.Exit.TheVariants as exit

abbrev pub leg_meant : Leg → Way
leg_meant leg.FromSource = row2
leg_meant leg.BackToSource = row3
leg_meant leg.AtWork = row4
leg_meant leg.ToDestination = row5
leg_meant leg.FromDestination = row6

abbrev pub change_meant : Change → Row
change_meant change.Correct = row8
change_meant (change.Need r) = row10 (reading_number r)
change_meant change.Start = row11
change_meant (change.End p) = row12 (processing_number p)
change_meant change.Return = row13
change_meant (change.GiveUp p) = row14 (processing_number p)
change_meant (change.ReadSame a) = row17 (spelled a)
change_meant (change.ReadFailed a) = row18 (spelled a)
change_meant (change.ReadOther a) = row19 (spelled a)
change_meant change.Proceed = row20
change_meant change.Cancel = row21

abbrev pub exit_meant : Exit → Gone
exit_meant exit.Unload = row7
exit_meant exit.Remove = row9

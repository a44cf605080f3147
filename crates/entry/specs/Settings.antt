-- A setting of a region, or a report of poison, as the call that it is.
use Rattle.model.specs.declared.Call.{Call}
use Rattle.entry.specs.declared.settings.Setting.{Setting}

abbrev pub setting_call : Setting → Call
setting_call (Setting.Gate h gate) = Call.SetGate h gate
setting_call (Setting.ReadOnly h on) = Call.SetReadOnly h on
setting_call (Setting.Forced h on) = Call.SetForced h on
setting_call (Setting.Poison cause) = Call.ReportPoison cause

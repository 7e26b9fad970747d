-- When a reader of a list breaks that is read piece by piece.
use Rattle.std.specs.Prelude.{◌≡◌}
use Rattle.deb_control.specs.declared.fault.ControlFault.{ControlFault}
use Rattle.deb_control.specs.declared.fault.ControlFaultKind.TheVariants.{Read}
use Rattle.deb_control.specs.Feed.{ReadEnds}
use Rattle.deb_control.specs.FeedState.{FeedState}
use Rattle.deb_control.specs.Source.{TakesSome}

-- a feed broke when it was read on: calls took bytes off its reader, and then one failed, since a read failed, or as much
-- was read as may be and more follows, and no paragraph had ended
pub record IsFeedBreak (feed : FeedState) (fault : ControlFault) : Type 0 where
  pub kind : fault.kind ≡ Read
  pub before : FeedState
  pub read : TakesSome feed.source before.source
  pub last : FeedState
  pub taken : TakesSome before.source last.source
  pub ends : ReadEnds before fault last

-- What a command needs, in a program by what it refers to.
use Rattle.wb_keys.specs.Rights.{Need, Everything, InNameOf, UnderTake, OnArch}
use Rattle.wb_keys.specs.declared.allowed.Need.{Need as Named}
use Rattle.wb_keys.specs.declared.allowed.Need.TheVariants as named

-- what is needed, by what a program refers to
abbrev pub need_named : Named → Need
need_named named.Everything = Everything
need_named (named.InNameOf name) = InNameOf name.now
need_named (named.UnderTake take_number) = UnderTake take_number
need_named (named.OnArch arch) = OnArch arch.now

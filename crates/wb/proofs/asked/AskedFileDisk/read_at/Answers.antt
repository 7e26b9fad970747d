-- What is read of the file or of the copy is read of what stands for it.
use Rattle.std.proofs.Common.{◌<◌, length, sym, subst, IsTrue}
use Rattle.std.specs.Prelude.{OnOk}
use Rattle.sqlite_disk.specs.Disk.{Holds}
use Rattle.wb.specs.Asked.{either}
use Rattle.wb.proofs.asked.AskedFileDisk.read_at.Goals as goal

pub returns-in-Kept-clause-read : goal.returns-in-Kept-clause-read
returns-in-Kept-clause-read g c =
    subst (λ f. OnOk c.read_at.result (IsTrue (g.F.Disk.is_clean c.read_at.new.self) → 0 < length c.args.buf.now
    → Holds (either g.F.Disk.seen g.C.Disk.seen f) c.args.at c.read_at.new.buf)) (sym c.in-Kept.is) c.read_at.ensures.read

pub returns-in-Copied-clause-read : goal.returns-in-Copied-clause-read
returns-in-Copied-clause-read g c =
    subst (λ f. OnOk c.read_at-in-Copied.result (IsTrue (g.C.Disk.is_clean c.read_at-in-Copied.new.self) → 0 < length c.args.buf.now
    → Holds (either g.F.Disk.seen g.C.Disk.seen f) c.args.at c.read_at-in-Copied.new.buf)) (sym c.in-Copied.is) c.read_at-in-Copied.ensures.read

use Rattle.std.proofs.Common.{refl}
use Rattle.wb_archive.proofs.merge.reply_to.Goals as goal

pub returns-clause-value : goal.returns-clause-value
returns-clause-value g c = λ at machine text archs clean holds unsaved empty unread has known.
    (refl, c.in_ok-end.ensures.value at machine text archs clean holds unsaved empty unread has known)

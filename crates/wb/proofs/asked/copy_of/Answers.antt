-- What was read whole is what was written.
use Rattle.std.proofs.Common.{◌≡◌, ◌∙◌, ◌<◌, length, sym, subst, ap, arith, rules, IsTrue}
use Rattle.sqlite_disk.specs.Disk.{Holds, Torn}
use Rattle.wb.proofs.CopyLemmas.{holds-whole, written-back, written-whole}
use Rattle.wb.proofs.asked.copy_of.Goals as goal

pub returns-clause-value : goal.returns-clause-value
returns-clause-value g c = λ clean.
    let all : length c.read_at.new.buf ≡ c.in_ok-bytes.bytes.len = search rules in
    let same : c.deref.result.now ≡ c.read_at.new.buf = c.deref.ensures.value ∙ written-back c.read_at.new.buf c.in_ok-bytes.bytes.items c.in_ok-bytes.bytes.len all in
    let sized : length c.deref.result.now ≡ c.in_ok-len.len = search rules in
    let whole : length (g.D.Disk.seen c.args.file.now) ≡ length c.deref.result.now =
    sym (sized ∙ c.in_ok-len.ensures.len (c.in_ok-read_at.ensures.clean clean)) in
    let some : 0 < length c.deref.result.now = omega (arith, sized, c.if-len-eq0.false) in
    let held : Holds (g.D.Disk.seen c.args.file.now) 0 c.deref.result.now = subst (Holds (g.D.Disk.seen c.args.file.now) 0) (sym same)
    (subst (λ seen. Holds seen 0 c.read_at.new.buf) c.len.ensures.seen (c.in_ok-read_at.ensures.read clean (omega (arith, all, sized, some)))) in
    let written = written-whole _ _ c.deref.result.now c.new-copy.ensures.empty c.in_ok-write_at.ensures.others (c.in_ok-write_at.ensures.written some) in
    written ∙ sym (holds-whole (g.D.Disk.seen c.args.file.now) c.deref.result.now whole held)

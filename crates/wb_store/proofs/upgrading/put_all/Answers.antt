use Rattle.std.proofs.Common.{◌≡◌, ◌∙◌, ◌+◌, ℕ, suc, ◌∷◌, drop, drop-cons, get_or, ap, arith, sym}
use Rattle.std.proofs.Common.{map as each}
use Rattle.std.proofs.lemmas.List.{drop_all}
use Rattle.wb_states.specs.Lookups.{entry_of}
use Rattle.wb_states.specs.declared.keyed.KeyedRecord.{KeyedRecord}
use Rattle.wb_store.proofs.ReadLemmas.{handed_on}
use Rattle.wb_store.proofs.UpgradeLemmas.{all_left, all_put, not_put, one_put}
use Rattle.wb_store.proofs.upgrading.put_all.Goals as goal

one_after : (n : ℕ) → suc n ≡ n + 1
one_after n = omega arith

pub loop-read-init : goal.loop-read-init
loop-read-init g c = λ machine. all_left g.S.Store machine (each entry_of c.args.records.now) c.args.conn.now

pub loop-read-preserved : goal.loop-read-preserved
loop-read-preserved g c = λ machine.
    let at = c.loop-read.read-index in
    let records = c.args.records.now in
    let item = c.read-item.result in
    let next : drop at records ≡ item ∷ drop (at + 1) records =
    drop-cons records at item c.loop-read-test.true ∙ ap (λ (n : ℕ). get_or records at item ∷ drop n records) (one_after at) ∙ ap (λ (r : KeyedRecord). r ∷ drop (at + 1) records) (sym c.read-item.is) in
    one_put (c.loop-read.invariant machine) (ap (each entry_of) next) c.in_ok-put.ensures.changes

pub returns-in_err-put : goal.returns-in_err-put
returns-in_err-put g c =
    let at = c.loop-read.read-index in
    let records = c.args.records.now in
    let item = c.read-item.result in
    let next : drop at records ≡ item ∷ drop (at + 1) records =
    drop-cons records at item c.loop-read-test.true ∙ ap (λ (n : ℕ). get_or records at item ∷ drop n records) (one_after at) ∙ ap (λ (r : KeyedRecord). r ∷ drop (at + 1) records) (sym c.read-item.is) in
    record {
      moves = λ machine. not_put (c.loop-read.invariant machine) (ap (each entry_of) next) c.in_err-put.ensures.changes (handed_on c.from_residual.result c.from_residual.ensures.1);
    }

pub returns : goal.returns
returns g c = record { moves = λ machine. all_put (c.loop-read.invariant machine) (ap (each entry_of) (drop_all c.loop-read.read-index c.args.records.now c.loop-read-test.false)) }

-- A statement that succeeds has done what follows from its run.
use Rattle.std.proofs.Common.{Result, Ok, Err, OnOk}

pub on_ok : {A E P Q : Type 0} (r : Result A E) → (P → Q) → OnOk r P → OnOk r Q
on_ok (Ok x) follows h = follows h
on_ok (Err e) follows h = tt

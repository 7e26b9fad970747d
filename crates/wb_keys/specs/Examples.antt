-- Parts of the examples of key files.
use Rattle.std.specs.Prelude.{ℕ, List, [], ◌∷◌, codes, replicate, Result, Err}
use Rattle.wb_keys.specs.declared.fault.BadLine.{BadLine}
use Rattle.wb_keys.specs.declared.fault.LineFault.{LineFault}
use Rattle.wb_keys.specs.declared.keys.KeyLine.{KeyLine}
use Rattle.wb_keys.specs.declared.keys.Keys.{Keys}
use Rattle.wb_keys.specs.declared.right.Right.TheVariants.{Build}

-- a hash of 64 zeros, after a space
abbrev pub zeros : List ℕ
zeros = codes " 0000000000000000000000000000000000000000000000000000000000000000"

-- the line `b1 build=b1 HASH`, with this hash
abbrev pub b1_line : KeyLine
b1_line = record { name = codes "b1"; rights = Build (codes "b1") ∷ []; hash = replicate 32 0 }

-- the line of this number is malformed
abbrev pub bad : ℕ → LineFault → Result Keys BadLine
bad line wrong = Err (record { line = line; fault = wrong })

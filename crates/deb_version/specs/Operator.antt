-- The comparisons that a relation between packages may ask for (Debian Policy 7.1).
use Rattle.std.specs.Prelude.{ℕ, Bool, List}
use Rattle.std.specs.declared.cmp.Ordering.{Ordering}
use Rattle.std.specs.Ordering.{is_lt, is_le, is_eq, is_ge, is_gt}
use Rattle.deb_version.specs.declared.operator.Op.{Op}
use Rattle.deb_version.specs.declared.operator.Op.TheVariants.{Earlier, EarlierOrEqual, Equal, LaterOrEqual, Later}
use Rattle.deb_version.specs.Order.{version_cmp}

-- whether the operator allows this result of a comparison (Policy 7.1)
abbrev pub allows : Op → Ordering → Bool
allows Earlier order = is_lt order
allows EarlierOrEqual order = is_le order
allows Equal order = is_eq order
allows LaterOrEqual order = is_ge order
allows Later order = is_gt order

-- whether the version at hand stands to the one asked for as the operator says (Policy 7.1)
unfoldable pub meets : Op → List ℕ → List ℕ → Bool
meets op have want = allows op (version_cmp have want)

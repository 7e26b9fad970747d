-- A table that is the only one in its tree, and the tree of a name.
use Rattle.std.proofs.Common.{◌≡◌, ℕ, ◌==◌, Bool, true, false, cond, Option, Some, List, [], ◌∷◌, length, filter, find, slice_get, inl, inr, arith}
use Rattle.sqlite.specs.Schema.{Schema}
use Rattle.sqlite.specs.Table.{Table}
use Rattle.sqlite_rules.specs.Lists.{Has}
use Rattle.sqlite_rules.proofs.ListLemmas.{has_got, has_kept}
use Rattle.sqlite_schema.specs.Names.{table_named}
use Rattle.wb_sql.specs.Among.{HasTable, tree_named}

-- the first of a list that is tested and then filtered is the first of what passes
first_kept : (b : Bool) (t table : Table) (rest more : List Table) (next : Option Table) → cond b (t ∷ rest) rest ≡ table ∷ more → (rest ≡ table ∷ more → next ≡ Some table) → cond b (Some t) next ≡ Some table
first_kept true t table rest more next e found = cc
first_kept false t table rest more next e found = found e

first_of : (p : Table → Bool) (tables : List Table) (table : Table) (more : List Table) → filter p tables ≡ table ∷ more → find p tables ≡ Some table
first_of p [] table more e = absurd (cc)
first_of p (t ∷ tables) table more e = first_kept (p t) t table (filter p tables) more (find p tables) e (first_of p tables table more)

-- the table that is alone in its tree is the first in it
pub found_in_tree : (schema : Schema) (table : Table) → HasTable schema table → find (λ t. t.tree == table.tree) schema.tables ≡ Some table
found_in_tree schema table has = first_of (λ t. t.tree == table.tree) schema.tables table [] has.in_tree

-- a list of one is what it has
one_of : (tables : List Table) (table : Table) → length tables ≡ 1 → Has tables table → tables ≡ table ∷ []
one_of [] table e h = absurd h
one_of (t ∷ []) table e (inl same) = cc
one_of (t ∷ []) table e (inr later) = absurd later
one_of (t ∷ u ∷ more) table e h = absurd (omega (arith, e))

-- if one table alone passes, and this one does, it is the only one
pub alone_is : (p : Table → Bool) (tables : List Table) (at : ℕ) (table : Table) → length (filter p tables) ≡ 1 → slice_get tables at ≡ Some table → p table ≡ true → filter p tables ≡ table ∷ []
alone_is p tables at table one listed passes = one_of (filter p tables) table one (has_kept p tables table (has_got tables at table listed) passes)

-- the tree of a name is that of the first table with it
pub tree_is : (schema : Schema) (name : List ℕ) (table : Table) (at : ℕ) → table_named schema name ≡ Some at → slice_get schema.tables at ≡ Some table
    → tree_named schema name ≡ table.tree
tree_is schema name table at named listed = rw (named, listed)

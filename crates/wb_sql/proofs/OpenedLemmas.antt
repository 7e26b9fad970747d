-- A part of a statement that was put together is opened to what it was made of.
use Rattle.std.proofs.Common.{◌≡◌, refl, ℕ, List, [], None, false}
use Rattle.sqlite_tied.specs.Compute.{everything}
use Rattle.sqlite_ast.specs.declared.Expr.{Expr, out-Expr, roll-Expr}
use Rattle.sqlite_ast.specs.declared.Expr.TheOpen.{Expr-F, Shown-F}
use Rattle.sqlite_ast.specs.declared.Binary.{Binary}
use Rattle.sqlite_ast.specs.declared.Shown.{out-Shown, roll-Shown}
use Rattle.sqlite_ast.specs.declared.Source.{out-Source}
use Rattle.sqlite_ast.specs.declared.Origin.TheVariants as origin
use Rattle.wb_sql.proofs.SelectForm.{Name, column, source}

pub out_column : (name : Name) → out-Expr (column name) ≡ Expr-F.Column None name
unfolding everything
out_column name = refl

pub out_parameter : (n : ℕ) → out-Expr (roll-Expr (Expr-F.Parameter n)) ≡ Expr-F.Parameter n
unfolding everything
out_parameter n = refl

pub out_integer : (text : List ℕ) → out-Expr (roll-Expr (Expr-F.Integer text)) ≡ Expr-F.Integer text
unfolding everything
out_integer text = refl

pub out_binary : (op : Binary) (a b : Expr) → out-Expr (roll-Expr (Expr-F.Binary op a b)) ≡ Expr-F.Binary op a b
unfolding everything
out_binary op a b = refl

pub out_shown : (e : Expr) (text : Name) → out-Shown (roll-Shown (Shown-F.One e None text)) ≡ Shown-F.One e None text
unfolding everything
out_shown e text = refl

pub out_source : (name : Name) → out-Source (source name) ≡ record { is_left = false; origin = origin.Table name; alias = None; on = None; using = [] }
unfolding everything
out_source name = refl

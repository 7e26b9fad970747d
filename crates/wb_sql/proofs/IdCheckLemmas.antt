-- What the nodes of an expression are, if it is that the id of a row is 1.
use Rattle.std.proofs.Common.{◌≡◌, ◌≤◌, ℕ, zero, suc, pos, Some, List, [], ◌∷◌, length, get_or, slice_get, refl, arith, ap}
use Rattle.std.proofs.lemmas.Option.{get_or_from_slice_get}
use Rattle.sqlite.specs.Collation.TheVariants.{Binary as Bytewise}
use Rattle.sqlite_value.specs.declared.value.Value.TheVariants.{Null, Int}
use Rattle.sqlite_sql.specs.declared.ops.BinaryOp.TheVariants.{Compare}
use Rattle.sqlite_sql.specs.declared.ops.CompareOp.TheVariants.{Eq}
use Rattle.sqlite_sql.specs.Term.{Term, lit, col}
use Rattle.sqlite_schema.specs.declared.code.Op.{Op}
use Rattle.sqlite_schema.specs.declared.code.Op.TheVariants.{Literal, Column, Unary, Binary, Case}
use Rattle.sqlite_schema.specs.Code.{op_term, term_to, term_in}
use Rattle.wb_sql.specs.Recognition.{id_is_one, ComparesIdWithOne}

-- a node that is read, and is not what is read past the end, is there
there : (nodes : List Op) (at : ℕ) (op : Op) → get_or nodes at (Literal Null) ≡ op → (Literal Null ≡ op → ⊥) → slice_get nodes at ≡ Some op
there [] at op is other = absurd (other is)
there (x ∷ xs) zero op is other = ap Some is
there (x ∷ xs) (suc at) op is other = there xs at op is other

column_node : (below : ℕ → Term) (op : Op) → op_term below op ≡ col 1 0 → op ≡ Column 1 0
column_node below (Literal v) is = absurd (cc)
column_node below (Column slot at) is = cc
column_node below (Unary o a) is = absurd (cc)
column_node below (Binary o a b) is = absurd (cc)
column_node below (Case t a b) is = absurd (cc)

number_node : (below : ℕ → Term) (op : Op) → op_term below op ≡ lit (Int (pos 1)) → op ≡ Literal (Int (pos 1))
number_node below (Literal v) is = cc
number_node below (Column slot at) is = absurd (cc)
number_node below (Unary o a) is = absurd (cc)
number_node below (Binary o a b) is = absurd (cc)
number_node below (Case t a b) is = absurd (cc)

pub record IsComparison (below : ℕ → Term) (op : Op) : Type 0 where
  pub id : ℕ
  pub one : ℕ
  pub is : op ≡ Binary (Compare Eq Bytewise) id one
  pub id_is : below id ≡ col 1 0
  pub one_is : below one ≡ lit (Int (pos 1))

comparison_node : (below : ℕ → Term) (op : Op) → op_term below op ≡ id_is_one → IsComparison below op
comparison_node below (Literal v) is = absurd (cc)
comparison_node below (Column slot at) is = absurd (cc)
comparison_node below (Unary o a) is = absurd (cc)
comparison_node below (Binary o a b) is = record { id = a; one = b; is = cc; id_is = cc; one_is = cc }
comparison_node below (Case t a b) is = absurd (cc)

pub compares : (nodes : List Op) (root : ℕ) → 2 ≤ length nodes → ComparesIdWithOne nodes root → term_in nodes root ≡ id_is_one
compares [] root many h = absurd (omega arith)
compares (x ∷ []) root many h = absurd (omega arith)
compares (x ∷ (y ∷ rest)) root many h =
    let nodes : List Op = x ∷ (y ∷ rest) in
    let r = get_or_from_slice_get nodes root _ (Literal Null) h.root_is in
    let i = get_or_from_slice_get nodes h.id _ (Literal Null) h.id_is in
    let o = get_or_from_slice_get nodes h.one _ (Literal Null) h.one_is in
    rw (r, i, o) refl

read_at : (below : ℕ → Term) (nodes : List Op) (at : ℕ) → Term
read_at below nodes at = op_term below (get_or nodes at (Literal Null))

pub compared : (nodes : List Op) (root : ℕ) → term_in nodes root ≡ id_is_one → (2 ≤ length nodes) × ComparesIdWithOne nodes root
compared [] root is = absurd (cc)
compared (x ∷ []) root is =
    let c = comparison_node (λ _. lit Null) (get_or (x ∷ []) root (Literal Null)) is in
    absurd (cc (c.id_is))
compared (x ∷ (y ∷ rest)) root is =
    let nodes : List Op = x ∷ (y ∷ rest) in
    let below : ℕ → Term = term_to nodes (suc (length rest)) in
    let c = comparison_node below (get_or nodes root (Literal Null)) is in
    let i = column_node (term_to nodes (length rest)) (get_or nodes c.id (Literal Null)) c.id_is in
    let o = number_node (term_to nodes (length rest)) (get_or nodes c.one (Literal Null)) c.one_is in (
      omega arith,
      record {
        id = c.id;
        one = c.one;
        root_is = there nodes root _ c.is (λ e. cc);
        id_is = there nodes c.id _ i (λ e. cc);
        one_is = there nodes c.one _ o (λ e. cc);
      },
    )

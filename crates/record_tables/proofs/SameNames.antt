-- A name means the same over two schemas that have the same tables at other places.
use Rattle.std.proofs.Common.{◌≡◌, ℕ, zero, suc, ◌^◌, ◌+◌, List, [], ◌∷◌, map, Bool, true, false, cond, not, ◌&&◌}
use Rattle.std.proofs.Common.{◌||◌, Option, Some, None, Ok, Err, slice_get, refl, sym, ap, subst, ◌∙◌}
use Rattle.std.proofs.Common.{option_map, option_and_then, unwrap_or, is_some, nat_lt, ◌==◌, find}
use Rattle.std.specs.List.{AllByRecursion}
use Rattle.std.proofs.lemmas.Option.{slice_get-map}
use Rattle.sqlite.specs.Table.{Table}
use Rattle.sqlite.specs.Schema.{Schema}
use Rattle.sqlite_sql.specs.Term.{Term, lit, col, op1, op2, case}
use Rattle.sqlite_schema.specs.Names.{column_named, place_of}
use Rattle.sqlite_resolve.specs.declared.error.CompileError.TheVariants.{NoSuchColumn}
use Rattle.record_tables.specs.Tables.{in_tree}
use Rattle.sqlite_resolve.specs.declared.state.Carried.{Carried}
use Rattle.sqlite_resolve.specs.declared.scope.Bound.{Bound}
use Rattle.sqlite_resolve.specs.declared.scope.Found.{Found}
use Rattle.sqlite_resolve.specs.declared.scope.Found.TheVariants.{Column, Rowid, Alias}
use Rattle.sqlite_resolve.specs.declared.scope.Level.{Level}
use Rattle.sqlite_resolve.specs.Lowering.{Checked, and_then, or_else, Lowering, ◌>>=◌, ◌>>◌, pure}
use Rattle.sqlite_resolve.specs.Lowering.{lift, carry, last, spend, begin, finish}
use Rattle.sqlite_resolve.specs.Lowering.{chosen as chosen_by}
use Rattle.sqlite_resolve.specs.Scope as scope
use Rattle.sqlite_resolve.specs.Compare as compare
use Rattle.sqlite_resolve.specs.Expr as expr
use Rattle.sqlite_resolve.specs.declared.compare.Affinity.TheVariants as affinity
use Rattle.sqlite_ast.specs.declared.Binary.{Binary}
use Rattle.sqlite_ast.specs.declared.Binary.TheVariants as binary
use Rattle.sqlite_ast.specs.declared.Expr.{Expr, out-Expr}
use Rattle.sqlite_ast.specs.declared.Expr.TheOpen.{Expr-F}
use Rattle.sqlite_ast.specs.Layer.{Layer}
use Rattle.sqlite_sql.specs.declared.ops.BinaryOp.{BinaryOp}
use Rattle.sqlite_sql.specs.declared.ops.BinaryOp.TheVariants.{Compare}
use Rattle.sqlite_sql.specs.declared.ops.CompareOp.TheVariants.{Eq, Le, Ge}
use Rattle.sqlite_value.specs.declared.keys.Collation.{Collation}
use Rattle.sqlite_resolve.specs.Scope.{Name, Context}

-- a comparison, or AND
abbrev pub IsPlainOperator : Binary → Type 0
IsPlainOperator binary.Eq = Unit {0}
IsPlainOperator binary.Le = Unit {0}
IsPlainOperator binary.Ge = Unit {0}
IsPlainOperator binary.And = Unit {0}
IsPlainOperator _ = ⊥

abbrev pub IsPlainLayer : (Expr → Type 0) → Layer → Type 0
IsPlainLayer Below (Expr-F.Integer text) = Unit {0}
IsPlainLayer Below (Expr-F.Parameter n) = Unit {0}
IsPlainLayer Below (Expr-F.Column table name) = Unit {0}
IsPlainLayer Below (Expr-F.Binary op x y) = IsPlainOperator op × Below x × Below y
IsPlainLayer Below _ = ⊥

-- columns, parameters and numbers under comparisons and AND, to a depth
abbrev pub IsPlain : ℕ → Expr → Type 0
IsPlain zero e = ⊥
IsPlain (suc n) e = IsPlainLayer (IsPlain n) (out-Expr e)

-- each table of the one schema stands in the other, at another place and with its rows in another tree
pub record AreAt (S S' : Schema) (p q : ℕ → ℕ) : Type 0 where
  pub same : (k : ℕ) → slice_get S.tables (p k) ≡ option_map (in_tree (q k)) (slice_get S'.tables k)
  pub small : (k : ℕ) → nat_lt (q k) (2 ^ 31) ≡ true
  pub low : AllByRecursion (λ (t : Table). nat_lt t.tree (2 ^ 31) ≡ true) S'.tables
  pub own : (k : ℕ) (t : Table) → slice_get S'.tables k ≡ Some t → t.tree ≡ k

module _ (S S' : Schema) (p q : ℕ → ℕ) (are : AreAt S S' p q) where
  abbrev pub moved : Bound → Bound
  moved b = record b { table = p b.table }

  abbrev pub moved_level : Level → Level
  moved_level l = record l { tables = map moved l.tables }

  abbrev pub here : List Level → Bool → Bool → Context
  here ls m a = record { schema = S; levels = map moved_level ls; may_aggregate = m; may_alias = a }

  abbrev pub there : List Level → Bool → Bool → Context
  there ls m a = record { schema = S'; levels = ls; may_aggregate = m; may_alias = a }

  abbrev pub moved_found : Found → Found
  moved_found (Column slot table at) = Column slot (p table) at
  moved_found (Rowid slot table) = Rowid slot (p table)
  moved_found (Alias depth at) = Alias depth at

  abbrev pub moved_option : Option Found → Option Found
  moved_option None = None
  moved_option (Some f) = Some (moved_found f)

  abbrev pub moved_result : Checked Found → Checked Found
  moved_result (Ok f) = Ok (moved_found f)
  moved_result (Err e) = Err e

  abbrev pub moved_hit : Checked (Option Found) → Checked (Option Found)
  moved_hit (Ok o) = Ok (moved_option o)
  moved_hit (Err e) = Err e

  columns_map : (slot k : ℕ) (o : Option ℕ) → option_map (Column slot (p k)) o ≡ moved_option (option_map (Column slot k) o)
  columns_map slot k None = refl
  columns_map slot k (Some at) = refl

  pub column_in : (name : Name) (b : Bound) → scope.column_in S name (moved b) ≡ moved_option (scope.column_in S' name b)
  unfolding scope.column_in
  column_in name b = ap (λ o. option_map (Column b.slot (p b.table)) (option_and_then (λ t. column_named t name) o)) (are.same b.table)
      ∙ go (slice_get S'.tables b.table)
    where
      go : (o : Option Table) → option_map (Column b.slot (p b.table)) (option_and_then (λ t. column_named t name) (option_map (in_tree (q b.table))
          o))
          ≡ moved_option (option_map (Column b.slot b.table) (option_and_then (λ t. column_named t name) o))
      go None = refl
      go (Some t) = columns_map b.slot b.table (column_named t name)

  low_at : (k : ℕ) (ts : List Table) → AllByRecursion (λ (t : Table). nat_lt t.tree (2 ^ 31) ≡ true) ts → (t : Table) → slice_get ts k ≡ Some t
      → nat_lt t.tree (2 ^ 31) ≡ true
  low_at k [] all t e = absurd cc
  low_at zero (x ∷ ts) all t e = subst (λ (y : Table). nat_lt y.tree (2 ^ 31) ≡ true) (ap (λ o. unwrap_or o x) e) all.0
  low_at (suc k) (x ∷ ts) all t e = low_at k ts all.1 t e

  rowid_in : (b : Bound) → scope.rowid_in S (moved b) ≡ moved_option (scope.rowid_in S' b)
  unfolding scope.rowid_in
  rowid_in b = ap (λ o. option_and_then (λ t. cond (nat_lt t.tree (2 ^ 31)) (Some (Rowid b.slot (p b.table))) None) o) (are.same b.table)
      ∙ go (slice_get S'.tables b.table) refl
    where
      go : (o : Option Table) → slice_get S'.tables b.table ≡ o
          → option_and_then (λ t. cond (nat_lt t.tree (2 ^ 31)) (Some (Rowid b.slot (p b.table))) None) (option_map (in_tree (q b.table)) o)
          ≡ moved_option (option_and_then (λ t. cond (nat_lt t.tree (2 ^ 31)) (Some (Rowid b.slot b.table)) None) o)
      go None e = refl
      go (Some t) e =
          ap (λ c. cond c (Some (Rowid b.slot (p b.table))) None) (are.small b.table)
          ∙ sym (ap (λ c. moved_option (cond c (Some (Rowid b.slot b.table)) None)) (low_at b.table S'.tables are.low t e))

  chosen : (a r : Bool) (x y x' y' : Option Found) → x ≡ moved_option x' → y ≡ moved_option y'
      → cond a (cond r x y) None ≡ moved_option (cond a (cond r x' y') None)
  chosen true true x y x' y' e f = e
  chosen true false x y x' y' e f = f
  chosen false r x y x' y' e f = refl

  hit : (table : Option Name) (name : Name) (by_rowid : Bool) (b : Bound) → scope.hit S table name by_rowid (moved b)
      ≡ moved_option (scope.hit S' table name by_rowid b)
  unfolding scope.hit
  hit None name by_rowid b = chosen (not (scope.is_hidden None name b)) by_rowid _ _ _ _ (rowid_in b) (column_in name b)
  hit (Some table) name by_rowid b = chosen (scope.is_meant (Some table) b && true) by_rowid _ _ _ _ (rowid_in b) (column_in name b)

  at_most : (f x : Option Found) → scope.at_most_one (moved_option f) (moved_option x) ≡ moved_hit (scope.at_most_one f x)
  at_most None None = refl
  at_most (Some f) None = refl
  at_most None (Some x) = refl
  at_most (Some f) (Some x) = refl

  only_from : (test test' : Bound → Option Found) → ((b : Bound) → test (moved b) ≡ moved_option (test' b)) → (f : Option Found) (bs : List Bound)
      → scope.only_from test (moved_option f) (map moved bs) ≡ moved_hit (scope.only_from test' f bs)
  only_from test test' h f [] = refl
  only_from test test' h f (b ∷ bs) =
      ap (λ o. and_then (scope.at_most_one (moved_option f) o) (λ g. scope.only_from test g (map moved bs))) (h b)
      ∙ ap (λ r. and_then r (λ g. scope.only_from test g (map moved bs))) (at_most f (test' b))
      ∙ go (scope.at_most_one f (test' b)) (λ g. only_from test test' h g bs)
    where
      go : (r : Checked (Option Found)) → ((g : Option Found) → scope.only_from test (moved_option g) (map moved bs)
          ≡ moved_hit (scope.only_from test' g bs))
          → and_then (moved_hit r) (λ g. scope.only_from test g (map moved bs)) ≡ moved_hit (and_then r (λ g. scope.only_from test' g bs))
      go (Ok g) more = more g
      go (Err e) more = refl

  only : (table : Option Name) (name : Name) (by_rowid : Bool) (bs : List Bound) → scope.only S table name by_rowid (map moved bs)
      ≡ moved_hit (scope.only S' table name by_rowid bs)
  unfolding scope.only
  only table name by_rowid bs = only_from (scope.hit S table name by_rowid) (scope.hit S' table name by_rowid) (hit table name by_rowid) None bs

  -- the column, or else the rowid, or else the alias
  abbrev by_turns : Checked (Option Found) → Bool → Checked (Option Found) → Bool → Option Found → Checked (Option Found)
  by_turns columns is_rowid rowids among alias =
      and_then columns (λ column. cond (is_some column) (Ok column) (and_then (cond is_rowid rowids (Ok None)) (λ rowid. cond (is_some rowid ||
      among) (Ok rowid) (Ok alias))))

  turns : (columns rowids : Checked (Option Found)) (is_rowid among : Bool) (depth : ℕ) (alias : Option ℕ)
      → by_turns (moved_hit columns) is_rowid (moved_hit rowids) among (option_map (Alias depth) alias)
      ≡ moved_hit (by_turns columns is_rowid rowids among (option_map (Alias depth) alias))
  turns (Err e) rowids is_rowid among depth alias = refl
  turns (Ok (Some f)) rowids is_rowid among depth alias = refl
  turns (Ok None) (Err e) true among depth alias = refl
  turns (Ok None) (Ok (Some f)) true among depth alias = refl
  turns (Ok None) (Ok None) true true depth alias = refl
  turns (Ok None) (Ok None) true false depth None = refl
  turns (Ok None) (Ok None) true false depth (Some at) = refl
  turns (Ok None) rowids false true depth alias = refl
  turns (Ok None) rowids false false depth None = refl
  turns (Ok None) rowids false false depth (Some at) = refl

  in_level : (table : Option Name) (name : Name) (depth : ℕ) (l : Level) → scope.in_level S table name depth (moved_level l)
      ≡ moved_hit (scope.in_level S' table name depth l)
  unfolding scope.in_level
  in_level table name depth l =
      ap (λ c. by_turns c (scope.is_rowid name) (scope.only S table name true (map moved l.tables)) (is_some table) (option_map (Alias depth)
      (scope.alias_of name l.shown)))
      (only table name false l.tables)
      ∙ ap (λ r. by_turns (moved_hit (scope.only S' table name false l.tables)) (scope.is_rowid name) r (is_some table) (option_map (Alias depth)
      (scope.alias_of name l.shown)))
      (only table name true l.tables)
      ∙ turns (scope.only S' table name false l.tables) (scope.only S' table name true l.tables) (scope.is_rowid name) (is_some table) depth
      (scope.alias_of name l.shown)

  find_from : (table : Option Name) (name : Name) (depth : ℕ) (ls : List Level)
      → scope.find_from S table name depth (map moved_level ls) ≡ moved_result (scope.find_from S' table name depth ls)
  find_from table name depth [] = refl
  find_from table name depth (l ∷ ls) =
      ap (λ r. and_then r (scope.found_or (scope.find_from S table name (depth + 1) (map moved_level ls)))) (in_level table name depth l)
      ∙ ap (λ r. and_then (moved_hit (scope.in_level S' table name depth l)) (scope.found_or r)) (find_from table name (depth + 1) ls)
      ∙ go (scope.in_level S' table name depth l) (scope.find_from S' table name (depth + 1) ls)
    where
      go : (r : Checked (Option Found)) (outside : Checked Found) → and_then (moved_hit r) (scope.found_or (moved_result outside))
          ≡ moved_result (and_then r (scope.found_or outside))
      go (Ok (Some f)) outside = refl
      go (Ok None) (Ok f) = refl
      go (Ok None) (Err e) = refl
      go (Err e) outside = refl

  pub finds : (ls : List Level) (m a : Bool) (table : Option Name) (name : Name)
      → scope.find (here ls m a) table name ≡ moved_result (scope.find (there ls m a) table name)
  unfolding scope.find
  finds ls m a table name = find_from table name 0 ls

  abbrev described : ℕ → ℕ → Option Table → Checked (Term × Carried)
  described slot at o = or_else (option_and_then (λ t. option_map (λ c. (col slot (place_of t at), scope.declared t at c)) (slice_get t.columns at))
      o) NoSuchColumn

  column_at : (slot k at : ℕ) → scope.column_at S slot (p k) at ≡ scope.column_at S' slot k at
  unfolding scope.column_at
  column_at slot k at = ap (described slot at) (are.same k) ∙ go (slice_get S'.tables k)
    where
      go : (o : Option Table) → described slot at (option_map (in_tree (q k)) o) ≡ described slot at o
      go None = refl
      go (Some t) = refl

  levels_at : (ls : List Level) (depth : ℕ) (f : Level → Lowering Term) → ((l : Level) → f (moved_level l) ≡ f l)
      → (lift (or_else (slice_get (map moved_level ls) depth) NoSuchColumn) >>= f) ≡ (lift (or_else (slice_get ls depth) NoSuchColumn) >>= f)
  levels_at ls depth f h = ap (λ o. lift (or_else o NoSuchColumn) >>= f) (slice_get-map moved_level ls depth) ∙ go (slice_get ls depth)
    where
      go : (o : Option Level) → (lift (or_else (option_map moved_level o) NoSuchColumn) >>= f) ≡ (lift (or_else o NoSuchColumn) >>= f)
      go None = refl
      go (Some l) = h l

  pub term_of : (ls : List Level) (m a : Bool) (f : Found) → scope.term_of (here ls m a) (moved_found f) ≡ scope.term_of (there ls m a) f
  unfolding scope.term_of
  term_of ls m a (Column slot table at) = ap (λ r. lift r >>= (λ found. carry found.1 >> pure found.0)) (column_at slot table at)
  term_of ls m a (Rowid slot table) = refl
  term_of ls m true (Alias depth at) = levels_at ls depth (λ l. scope.shown_again (m && depth == 0) l.shown at) (λ l. refl)
  term_of ls m false (Alias depth at) = refl

  pub column : (ls : List Level) (m a : Bool) (table : Option Name) (name : Name) → scope.column (here ls m a) table name
      ≡ scope.column (there ls m a) table name
  unfolding scope.column
  column ls m a table name = ap (λ r. lift r >>= scope.term_of (here ls m a)) (finds ls m a table name) ∙ go (scope.find (there ls m a) table name)
    where
      go : (r : Checked Found) → (lift (moved_result r) >>= scope.term_of (here ls m a)) ≡ (lift r >>= scope.term_of (there ls m a))
      go (Ok f) = term_of ls m a f
      go (Err e) = refl

  -- ---- comparisons

  table_in : (slot : ℕ) (ls : List Level) → compare.table_in slot (map moved_level ls) ≡ option_map p (compare.table_in slot ls)
  table_in slot [] = refl
  table_in slot (l ∷ ls) =
      ap (λ o. compare.or_else (option_map (λ b. b.table) o) (compare.table_in slot (map moved_level ls))) (find_moved l.tables)
      ∙ ap (λ o. compare.or_else (option_map (λ b. b.table) (option_map moved (find (λ b. b.slot == slot) l.tables))) o) (table_in slot ls)
      ∙ go (find (λ b. b.slot == slot) l.tables) (compare.table_in slot ls)
    where
      find_moved : (bs : List Bound) → find (λ b. b.slot == slot) (map moved bs) ≡ option_map moved (find (λ b. b.slot == slot) bs)
      find_moved [] = refl
      find_moved (b ∷ bs) = next (b.slot == slot) (find_moved bs)
        where
          next : (c : Bool) → find (λ b. b.slot == slot) (map moved bs) ≡ option_map moved (find (λ b. b.slot == slot) bs)
              → cond c (Some (moved b)) (find (λ b. b.slot == slot) (map moved bs)) ≡ option_map moved (cond c (Some b) (find (λ b. b.slot == slot)
              bs))
          next true h = refl
          next false h = h

      go : (o : Option Bound) (rest : Option ℕ) → compare.or_else (option_map (λ b. b.table) (option_map moved o)) (option_map p rest)
          ≡ option_map p (compare.or_else (option_map (λ b. b.table) o) rest)
      go None rest = refl
      go (Some b) rest = refl

  at_place : (k at : ℕ) → compare.at_place S (p k) at ≡ compare.at_place S' k at
  at_place k zero = refl
  at_place k (suc at) = ap (λ o. unwrap_or (option_map compare.of_declared (option_and_then (λ t. slice_get t.columns at) o)) affinity.None)
      (are.same k)
      ∙ go (slice_get S'.tables k)
    where
      go : (o : Option Table) → unwrap_or (option_map compare.of_declared (option_and_then (λ t. slice_get t.columns at) (option_map (in_tree (q k))
          o))) affinity.None
          ≡ unwrap_or (option_map compare.of_declared (option_and_then (λ t. slice_get t.columns at) o)) affinity.None
      go None = refl
      go (Some t) = refl

  of_column : (ls : List Level) (m a : Bool) (slot at : ℕ) → compare.of_column (here ls m a) slot at ≡ compare.of_column (there ls m a) slot at
  unfolding compare.of_column
  of_column ls m a slot at =
      ap (λ o. cond (slot == 0 && at == 0) affinity.None (unwrap_or (option_map (λ table. compare.at_place S table at) o) affinity.None)) (table_in
      slot ls)
      ∙ ap (λ x. cond (slot == 0 && at == 0) affinity.None x) (go (compare.table_in slot ls))
    where
      go : (o : Option ℕ) → unwrap_or (option_map (λ table. compare.at_place S table at) (option_map p o)) affinity.None
          ≡ unwrap_or (option_map (λ table. compare.at_place S' table at) o) affinity.None
      go None = refl
      go (Some k) = at_place k at

  affinity_of : (ls : List Level) (m a : Bool) (t : Term) → compare.affinity_of (here ls m a) t ≡ compare.affinity_of (there ls m a) t
  unfolding compare.affinity_of
  affinity_of ls m a (lit v) = refl
  affinity_of ls m a (col slot at) = of_column ls m a slot at
  affinity_of ls m a (op1 op x) = refl
  affinity_of ls m a (op2 op x y) = refl
  affinity_of ls m a (case t x y) = refl

  compared : (ls : List Level) (m a : Bool) (op : BinaryOp) (x y : Term) → compare.compared (here ls m a) op x y
      ≡ compare.compared (there ls m a) op x y
  unfolding compare.compared
  compared ls m a op x y = λ i.
      op2 op (compare.converted (affinity_of ls m a x i) (affinity_of ls m a y i) x) (compare.converted (affinity_of ls m a y i) (affinity_of ls m a
      x i) y)

  -- ---- expressions

  combined : (ls : List Level) (m a : Bool) (op : Binary) → IsPlainOperator op → (how : Collation) (x y : Term)
      → expr.combine (here ls m a) op how x y ≡ expr.combine (there ls m a) op how x y
  unfolding expr.combine
  combined ls m a binary.Eq h how x y = λ i. pure (compared ls m a (Compare Eq how) x y i)
  combined ls m a binary.Le h how x y = λ i. pure (compared ls m a (Compare Le how) x y i)
  combined ls m a binary.Ge h how x y = λ i. pure (compared ls m a (Compare Ge how) x y i)
  combined ls m a binary.And h how x y = refl
  combined ls m a _ h how x y = absurd h

  -- these lower alike
  abbrev Lowers : (Context → Expr → Lowering Term) → Type 0
  Lowers lower = (n : ℕ) (e : Expr) → IsPlain n e → (ls : List Level) (m a : Bool) → lower (here ls m a) e ≡ lower (there ls m a) e

  module _ (lower : Context → Expr → Lowering Term) (alike : Lowers lower) (n : ℕ) (ls : List Level) (m a : Bool) where
    operation : (op : Binary) (x y : Expr) → IsPlainOperator op → IsPlain n x → IsPlain n y
        → expr.operation lower (here ls m a) op x y ≡ expr.operation lower (there ls m a) op x y
    unfolding expr.operation expr.both expr.wanted_truth expr.tests_truth expr.tests_alias
    operation binary.Eq x y op hx hy = λ i. alike n x hx ls m a i >>= (λ s. last >>= (λ q. alike n y hy ls m a i >>= (λ t. last >>= (λ r. combined
        ls m a binary.Eq tt (chosen_by q r) s t i))))
    operation binary.Le x y op hx hy = λ i. alike n x hx ls m a i >>= (λ s. last >>= (λ q. alike n y hy ls m a i >>= (λ t. last >>= (λ r. combined
        ls m a binary.Le tt (chosen_by q r) s t i))))
    operation binary.Ge x y op hx hy = λ i. alike n x hx ls m a i >>= (λ s. last >>= (λ q. alike n y hy ls m a i >>= (λ t. last >>= (λ r. combined
        ls m a binary.Ge tt (chosen_by q r) s t i))))
    operation binary.And x y op hx hy = λ i. alike n x hx ls m a i >>= (λ s. last >>= (λ q. alike n y hy ls m a i >>= (λ t. last >>= (λ r. combined
        ls m a binary.And tt (chosen_by q r) s t i))))
    operation _ x y op hx hy = absurd op

    layer : (l : Layer) → IsPlainLayer (IsPlain n) l → expr.node_at lower (here ls m a) l ≡ expr.node_at lower (there ls m a) l
    layer (Expr-F.Integer text) h = refl
    layer (Expr-F.Parameter k) h = refl
    layer (Expr-F.Column table name) h = column ls m a table name
    layer (Expr-F.Binary op x y) h = operation op x y h.0 h.1 h.2
    layer _ h = absurd h

    node : (e : Expr) → IsPlain (suc n) e → expr.node lower (here ls m a) e ≡ expr.node lower (there ls m a) e
    unfolding expr.node expr.opened
    node e h = λ i. spend 1 >> (begin >>= (λ outer. layer (out-Expr e) h i >>= (λ t. finish outer (expr.passes e) >> pure t)))

  lowers_to : (depth : ℕ) → Lowers (expr.lower_to depth)
  unfolding expr.lower_to
  lowers_to zero n e h ls m a = refl
  lowers_to (suc depth) zero e h ls m a = absurd h
  lowers_to (suc depth) (suc n) e h ls m a = node (expr.lower_to depth) (lowers_to depth) n ls m a e h

  pub lowers : Lowers expr.lower
  lowers = lowers_to 700

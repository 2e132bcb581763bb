-- A query means the same over two schemas that have the same tables at other places.
use Rattle.std.proofs.Common.{◌≡◌, ◌+◌, ℕ, List, [], ◌∷◌, ◌++◌, map, Bool, true, false, cond, not, ◌&&◌, Option, Some}
use Rattle.std.proofs.Common.{None, Ok, Err, codes, slice_get, length, refl, sym, ap, subst, ◌∙◌}
use Rattle.std.proofs.Common.{option_map, option_and_then, unwrap_or, is_some, nat_lt, ◌==◌}
use Rattle.std.specs.List.{AllByRecursion, list_all}
use Rattle.std.proofs.lemmas.List.{map-append}
use Rattle.sqlite.specs.Table.{Table}
use Rattle.sqlite.specs.Schema.{Schema}
use Rattle.sqlite_sql.specs.Term.{Term, reads_below}
use Rattle.sqlite_value.specs.declared.keys.Key.{Key}
use Rattle.sqlite_schema.specs.Names.{table_named, view_named}
use Rattle.sqlite_ast.specs.declared.Expr.{Expr, out-Expr}
use Rattle.sqlite_ast.specs.declared.Expr.TheOpen.{Expr-F, Shown-F}
use Rattle.sqlite_ast.specs.declared.Shown.{Shown, out-Shown}
use Rattle.sqlite_ast.specs.declared.Origin.{Origin}
use Rattle.sqlite_ast.specs.declared.Origin.TheVariants as origin
use Rattle.sqlite_ast.specs.declared.Select.{Select}
use Rattle.sqlite_ast.specs.declared.Source.{Source, out-Source}
use Rattle.sqlite_ast.specs.declared.Core.{Core, out-Core}
use Rattle.sqlite_ast.specs.declared.Sort.{Sort, out-Sort}
use Rattle.sqlite_ast.specs.Layer.{Layer, ShownLayer}
use Rattle.sqlite_draft.specs.declared.join.Step.{Step}
use Rattle.sqlite_draft.specs.declared.join.Step.TheVariants.{Inner, Left}
use Rattle.sqlite_resolve.specs.declared.error.CompileError.TheVariants.{NoSuchTable, NoSuchColumn, Misuse, TooBig, Unsupported}
use Rattle.sqlite_resolve.specs.declared.state.State.{State}
use Rattle.sqlite_resolve.specs.declared.scope.Bound.{Bound}
use Rattle.sqlite_resolve.specs.declared.scope.Output.{Output}
use Rattle.sqlite_resolve.specs.declared.scope.Found.{Found}
use Rattle.sqlite_resolve.specs.declared.scope.Found.TheVariants.{Column, Rowid, Alias}
use Rattle.sqlite_resolve.specs.declared.scope.Level.{Level}
use Rattle.sqlite_resolve.specs.declared.body.Joined.{Joined}
use Rattle.sqlite_resolve.specs.declared.body.Body.{Body}
use Rattle.sqlite_resolve.specs.declared.select.Clauses.{Clauses}
use Rattle.sqlite_resolve.specs.Lowering.{Checked, and_then, or_else, Lowering, ◌>>=◌, ◌<$>◌, pure, fail, lift, last}
use Rattle.sqlite_resolve.specs.Lowering.{get, take_slot, fresh, max_budget, chosen as chosen_by}
use Rattle.sqlite_resolve.specs.Scope as scope
use Rattle.sqlite_resolve.specs.Scope.{Name, Context}
use Rattle.sqlite_resolve.specs.Terms.{equal, conjuncts}
use Rattle.sqlite_resolve.specs.Body as body
use Rattle.sqlite_resolve.specs.Expr.{lower}
use Rattle.sqlite_resolve.specs.Select.{outermost, inside}
use Rattle.sqlite_resolve.specs.Select as select
use Rattle.sqlite_resolve.specs.Order as order
use Rattle.sqlite_draft.specs.declared.query.Draft.{Draft}
use Rattle.sqlite_value.specs.declared.keys.Collation.{Collation}
use Rattle.record_tables.proofs.SameNames
use Rattle.record_tables.proofs.SameNames.{AreAt, IsPlain}
use Rattle.record_tables.specs.Tables.{in_tree}

-- ---- one step of reading after another

-- the one reads what the other does, but for this change
abbrev Moves : {A B : Type 0} → (B → A) → Lowering A → Lowering B → Type 0
Moves change P Q = P ≡ (Q >>= (λ b. pure (change b)))

binds : {A B C D : Type 0} (g : B → A) (h : D → C) (P : Lowering A) (Q : Lowering B) (F : A → Lowering C) (G : B → Lowering D)
    → Moves g P Q → ((b : B) → Moves h (F (g b)) (G b)) → Moves h (P >>= F) (Q >>= G)
binds {A} {B} {C} {D} g h P Q F G e f = ap (λ x. x >>= F) e ∙ (λ i s. go (Q s) i)
  where
    go : (r : Checked (B × State)) → and_then (and_then r (λ x. pure (g x.0) x.1)) (λ x. F x.0 x.1)
        ≡ and_then (and_then r (λ x. G x.0 x.1)) (λ y. pure (h y.0) y.1)
    go (Ok x) = λ i. f x.0 i x.1
    go (Err e) = refl

-- after the same step
follows : {A C D : Type 0} (h : D → C) (P : Lowering A) (F : A → Lowering C) (G : A → Lowering D)
    → ((a : A) → Moves h (F a) (G a)) → Moves h (P >>= F) (P >>= G)
follows {A} {C} {D} h P F G f = λ i s. go (P s) i
  where
    go : (r : Checked (A × State)) → and_then r (λ x. F x.0 x.1) ≡ and_then (and_then r (λ x. G x.0 x.1)) (λ y. pure (h y.0) y.1)
    go (Ok x) = λ i. f x.0 i x.1
    go (Err e) = refl

-- an expression that is shown is plain
abbrev pub IsPlainShown : ShownLayer → Type 0
IsPlainShown Shown-F.All = ⊥
IsPlainShown (Shown-F.AllOf table) = ⊥
IsPlainShown (Shown-F.One e alias text) = IsPlain 4 e

abbrev pub IsPlainIfAny : Option Expr → Type 0
IsPlainIfAny None = Unit {0}
IsPlainIfAny (Some e) = IsPlain 4 e

module _ (S S' : Schema) (p q : ℕ → ℕ) (are : AreAt S S' p q) where
  abbrev moved : Bound → Bound
  moved = SameNames.moved S S' p q are

  abbrev here : List Level → Bool → Bool → Context
  here = SameNames.here S S' p q are

  abbrev there : List Level → Bool → Bool → Context
  there = SameNames.there S S' p q are

  -- the name is that of a table in both
  abbrev pub IsNamedOrigin : Origin Select → Type 0
  IsNamedOrigin (origin.Table name) = (k : ℕ) × (table_named S' name ≡ Some k) × (table_named S name ≡ Some (p k))
  IsNamedOrigin (origin.Query s) = ⊥

  abbrev pub IsNamed : Source → Type 0
  IsNamed s = IsNamedOrigin (out-Source s).origin

  abbrev found_at : Name × ℕ → Name × ℕ
  found_at r = (r.0, p r.1)

  abbrev with_name : Name → ℕ → Checked (Name × ℕ)
  with_name name at = Ok (name, at)

  lifts : (r r' : Checked (Name × ℕ)) → r ≡ and_then r' (λ x. Ok (found_at x)) → Moves found_at (lift r) (lift r')
  lifts r r' e = ap lift e ∙ (λ i s. go s r' i)
    where
      go : (s : State) (r' : Checked (Name × ℕ)) → lift (and_then r' (λ x. Ok (found_at x))) s ≡ (lift r' >>= (λ x. pure (found_at x))) s
      go s (Ok x) = refl
      go s (Err e) = refl

  table_in : (slot : ℕ) (o : Origin Select) → IsNamedOrigin o → body.table_in S slot o ≡ and_then (body.table_in S' slot o) (λ x. Ok (found_at x))
  unfolding body.table_in
  table_in slot (origin.Table name) h =
      ap (λ o. and_then (body.table_or (body.view_or_none (view_named S name)) o) (with_name name)) h.2
      ∙ sym (ap (λ o. and_then (and_then (body.table_or (body.view_or_none (view_named S' name)) o) (with_name name)) (λ x. Ok (found_at x))) h.1)
  table_in slot (origin.Query s) h = absurd h

  bound : (s : Source) → IsNamed s → Moves moved (body.bound S s) (body.bound S' s)
  unfolding body.bound
  bound s h = follows moved take_slot _ _ (λ slot. binds found_at moved _ _ _ _ (lifts _ _ (table_in slot (out-Source s).origin h)) (λ x. refl))

  bounds_from : (done : List Bound) (ss : List Source) → AllByRecursion IsNamed ss
      → Moves (map moved) (body.bounds_from S (map moved done) ss) (body.bounds_from S' done ss)
  bounds_from done [] h = refl
  bounds_from done (s ∷ ss) h = binds moved (map moved) _ _ _ _ (bound s h.0) (λ b.
      subst (λ l. Moves (map moved) (body.bounds_from S l ss) (body.bounds_from S' (done ++ b ∷ []) ss)) (map-append moved done (b ∷ []))
      (bounds_from (done ++ b ∷ []) ss h.1))

  bounds : (ss : List Source) → AllByRecursion IsNamed ss → Moves (map moved) (body.bounds S ss) (body.bounds S' ss)
  unfolding body.bounds
  bounds ss h = elim (nat_lt 64 (length ss)) as (λ c. Moves (map moved) (cond c (fail TooBig) (body.bounds_from S [] ss)) (cond c (fail TooBig)
      (body.bounds_from S' [] ss))) [
        | true ↦ refl
        | false ↦ bounds_from [] ss h
      ]

  -- ---- what is shown

  heading : (ls : List Level) (m a : Bool) (e : Expr) (text : Name) → body.heading (here ls m a) e text ≡ body.heading (there ls m a) e text
  unfolding body.heading body.declared
  heading ls m a e text = at_layer (out-Expr e)
    where
      declared : (k : ℕ) (at : Option ℕ) → body.declared S (p k) at ≡ body.declared S' k at
      declared k at = ap (option_and_then (λ t. option_and_then (λ j. option_map (λ c. c.name) (slice_get t.columns j)) at)) (are.same k)
          ∙ go (slice_get S'.tables k)
        where
          go : (o : Option Table) → option_and_then (λ t. option_and_then (λ j. option_map (λ c. c.name) (slice_get t.columns j)) at) (option_map
              (in_tree (q k)) o)
              ≡ option_and_then (λ t. option_and_then (λ j. option_map (λ c. c.name) (slice_get t.columns j)) at) o
          go None = refl
          go (Some t) = refl

      keyed : (k : ℕ) → option_and_then (λ t. t.key) (slice_get S.tables (p k)) ≡ option_and_then (λ t. t.key) (slice_get S'.tables k)
      keyed k = ap (option_and_then (λ (t : Table). t.key)) (are.same k) ∙ go (slice_get S'.tables k)
        where
          go : (o : Option Table) → option_and_then (λ t. t.key) (option_map (in_tree (q k)) o) ≡ option_and_then (λ t. t.key) o
          go None = refl
          go (Some t) = refl

      named : (r : Checked Found) → body.found_name S text (SameNames.moved_result S S' p q are r) ≡ body.found_name S' text r
      named (Ok (Column slot k at)) = ap (λ o. unwrap_or o text) (declared k (Some at))
      named (Ok (Rowid slot k)) = ap (λ o. unwrap_or (body.declared S (p k) o) (codes "rowid")) (keyed k)
          ∙ ap (λ o. unwrap_or o (codes "rowid")) (declared k _)
      named (Ok (Alias depth at)) = refl
      named (Err e) = refl

      at_layer : (l : Layer) → body.heading_at (here ls m a) text l ≡ body.heading_at (there ls m a) text l
      at_layer (Expr-F.Column table name) = ap (body.found_name S text) (SameNames.finds S S' p q are ls m a table name)
          ∙ named (scope.find (there ls m a) table name)
      at_layer (Expr-F.Truth name value) = ap (body.found_name S text) (SameNames.finds S S' p q are ls m a None name)
          ∙ named (scope.find (there ls m a) None name)
      at_layer _ = refl

  lowered : (n : ℕ) (e : Expr) → IsPlain n e → (ls : List Level) (m a : Bool) → lower (here ls m a) e ≡ lower (there ls m a) e
  lowered = SameNames.lowers S S' p q are

  shown : (ls : List Level) (m a : Bool) (bs cs : List Bound) (done : List Output) (s : Shown) → IsPlainShown (out-Shown s)
      → body.shown lower (here ls m a) bs done s ≡ body.shown lower (there ls m a) cs done s
  unfolding body.shown
  shown ls m a bs cs done s h = at_layer (out-Shown s) h
    where
      at_layer : (l : ShownLayer) → IsPlainShown l → body.shown_at lower (here ls m a) bs done l ≡ body.shown_at lower (there ls m a) cs done l
      at_layer (Shown-F.One e alias text) h = λ i. lowered 4 e h ls m a i >>= (λ t. last >>= (λ c.
          pure (done ++ record {
            name = unwrap_or alias (heading ls m a e text i);
            is_alias = is_some alias;
            is_column = body.is_column e;
            term = t;
            carried = c;
          } ∷ [])))
      at_layer _ h = absurd h

  outputs_from : (ls : List Level) (m a : Bool) (bs cs : List Bound) (done : List Output) (ss : List Shown)
      → AllByRecursion (λ s. IsPlainShown (out-Shown s)) ss
      → body.outputs_from lower (here ls m a) bs done ss ≡ body.outputs_from lower (there ls m a) cs done ss
  outputs_from ls m a bs cs done [] h = refl
  outputs_from ls m a bs cs done (s ∷ ss) h = λ i. shown ls m a bs cs done s h.0 i >>= (λ longer. outputs_from ls m a bs cs longer ss h.1 i)

  result : (tables : List Bound) (core : Core) → AllByRecursion (λ s. IsPlainShown (out-Shown s)) (out-Core core).shown
      → body.result lower (outermost S) (record { tables = map moved tables; shown = [] }) core
      ≡ body.result lower (outermost S') (record { tables = tables; shown = [] }) core
  unfolding body.result body.outputs
  result tables core h = outputs_from (record { tables = tables; shown = [] } ∷ []) true true (map moved tables) tables [] (out-Core core).shown h

  -- ---- the tables of FROM

  pub tests : (ls : List Level) (m a : Bool) (done : List Term) (e : Option Expr) → IsPlainIfAny e
      → body.tests lower (here ls m a) done e ≡ body.tests lower (there ls m a) done e
  unfolding body.tests
  tests ls m a done None h = refl
  tests ls m a done (Some e) h = λ i. (λ t. done ++ conjuncts t) <$> lowered 4 e h ls m a i

  leftmost : (name : Name) (bs : List Bound) → body.leftmost S name (map moved bs) ≡ SameNames.moved_option S S' p q are (body.leftmost S' name bs)
  leftmost name [] = refl
  leftmost name (b ∷ bs) = ap (λ o. cond (is_some o) o (body.leftmost S name (map moved bs))) (SameNames.column_in S S' p q are name b)
      ∙ go (scope.column_in S' name b) (leftmost name bs)
    where
      go : (o : Option Found) → body.leftmost S name (map moved bs) ≡ SameNames.moved_option S S' p q are (body.leftmost S' name bs)
          → cond (is_some (SameNames.moved_option S S' p q are o)) (SameNames.moved_option S S' p q are o) (body.leftmost S name (map moved bs))
          ≡ SameNames.moved_option S S' p q are (cond (is_some o) o (body.leftmost S' name bs))
      go None more = more
      go (Some f) more = refl

  read_by : (ls : List Level) (m a : Bool) (o : Option Found)
      → (lift (or_else (SameNames.moved_option S S' p q are o) NoSuchColumn) >>= scope.term_of (here ls m a))
      ≡ (lift (or_else o NoSuchColumn) >>= scope.term_of (there ls m a))
  read_by ls m a None = refl
  read_by ls m a (Some f) = SameNames.term_of S S' p q are ls m a f

  agreeing : (ls : List Level) (m a : Bool) (tables : List Bound) (b : Bound) (name : Name)
      → body.agreeing (here ls m a) (map moved tables) (moved b) name ≡ body.agreeing (there ls m a) tables b name
  unfolding body.agreeing body.first_with
  agreeing ls m a tables b name = λ i. left i >>= (λ x. last >>= (λ c. right i >>= (λ y. last >>= (λ d.
      cond (reads_below b.slot x) (pure (equal (chosen_by c d) x y)) (fail NoSuchColumn)))))
    where
      left : (lift (or_else (body.leftmost S name (map moved tables)) NoSuchColumn) >>= scope.term_of (here ls m a))
          ≡ (lift (or_else (body.leftmost S' name tables) NoSuchColumn) >>= scope.term_of (there ls m a))
      left = ap (λ o. lift (or_else o NoSuchColumn) >>= scope.term_of (here ls m a)) (leftmost name tables)
          ∙ read_by ls m a (body.leftmost S' name tables)

      right : (lift (or_else (scope.column_in S name (moved b)) NoSuchColumn) >>= scope.term_of (here ls m a))
          ≡ (lift (or_else (scope.column_in S' name b) NoSuchColumn) >>= scope.term_of (there ls m a))
      right = ap (λ o. lift (or_else o NoSuchColumn) >>= scope.term_of (here ls m a)) (SameNames.column_in S S' p q are name b)
          ∙ read_by ls m a (scope.column_in S' name b)

  shared_from : (ls : List Level) (m a : Bool) (tables : List Bound) (b : Bound) (done : List Term) (names : List Name)
      → body.shared_from (here ls m a) (map moved tables) (moved b) done names ≡ body.shared_from (there ls m a) tables b done names
  shared_from ls m a tables b done [] = refl
  shared_from ls m a tables b done (name ∷ more) = λ i. agreeing ls m a tables b name i >>= (λ t. shared_from ls m a tables b (done ++ t ∷ []) more i)

  shared : (ls : List Level) (m a : Bool) (tables : List Bound) (b : Bound) → body.shared (here ls m a) (map moved tables) (moved b)
      ≡ body.shared (there ls m a) tables b
  unfolding body.shared
  shared ls m a tables b = shared_from ls m a tables b [] b.shared

  abbrev pub moved_step : Step → Step
  moved_step (Inner k) = Inner (q k)
  moved_step (Left k on) = Left (q k) on
  moved_step step = step

  abbrev pub moved_joined : Joined → Joined
  moved_joined j = record { steps = map moved_step j.steps; filter = j.filter }

  -- the table, and the place where it has its rows
  tables_at : (k : ℕ) (o : Option Table) → ((t : Table) → o ≡ Some t → t.tree ≡ k) → {C D : Type 0} (h : D → C) (F : Table → Lowering C) (G : Table
      → Lowering D)
      → ((t : Table) → t.tree ≡ k → Moves h (F (in_tree (q k) t)) (G t))
      → Moves h (lift (or_else (option_map (in_tree (q k)) o) NoSuchTable) >>= F) (lift (or_else o NoSuchTable) >>= G)
  tables_at k None own h F G f = refl
  tables_at k (Some t) own h F G f = f t (own t refl)

  inner_join : (ls : List Level) (m a : Bool) (done : Joined) (tree k : ℕ) (same : List Term) (on : Option Expr) → IsPlainIfAny on → k ≡ tree
      → Moves moved_joined (body.inner_join lower (here ls m a) (moved_joined done) (q tree) same on) (body.inner_join lower (there ls m a) done k
      same on)
  unfolding body.inner_join
  inner_join ls m a done tree k same on h e =
      (λ i. (λ filter. record { steps = map moved_step done.steps ++ Inner (q (sym e i)) ∷ []; filter = filter }) <$> tests ls m a (done.filter ++
      same) on h i)
      ∙ follows moved_joined (body.tests lower (there ls m a) (done.filter ++ same) on) _ _ (λ filter.
      ap (λ l. pure (record { steps = l; filter = filter })) (sym (map-append moved_step done.steps (Inner k ∷ []))))

  left_join : (ls : List Level) (m a : Bool) (done : Joined) (tree k slot : ℕ) (same : List Term) (on : Option Expr) → IsPlainIfAny on → k ≡ tree
      → Moves moved_joined (body.left_join lower (here ls m a) (moved_joined done) (q tree) slot same on) (body.left_join lower (there ls m a) done
      k slot same on)
  unfolding body.left_join
  left_join ls m a done tree k slot same on h e =
      (λ i. tests ls m false same on h i >>= (λ terms. cond (list_all (reads_below (slot + 1)) terms)
      (pure (record { steps = map moved_step done.steps ++ Left (q (sym e i)) terms ∷ []; filter = done.filter })) (fail Unsupported)))
      ∙ follows moved_joined (body.tests lower (there ls m false) same on) _ _ (λ terms. go terms (list_all (reads_below (slot + 1)) terms))
    where
      go : (terms : List Term) (c : Bool) → Moves moved_joined
          (cond c (pure (record { steps = map moved_step done.steps ++ Left (q k) terms ∷ []; filter = done.filter })) (fail Unsupported))
          (cond c (pure (record { steps = done.steps ++ Left k terms ∷ []; filter = done.filter })) (fail Unsupported))
      go terms true = ap (λ l. pure (record { steps = l; filter = done.filter })) (sym (map-append moved_step done.steps (Left k terms ∷ [])))
      go terms false = refl

  abbrev pub IsPlainOn : Source → Type 0
  IsPlainOn s = IsPlainIfAny (out-Source s).on

  join : (ls : List Level) (m a : Bool) (tables : List Bound) (done : Joined) (b : Bound) (s : Source) → IsPlainOn s
      → Moves moved_joined (body.join lower (here ls m a) (map moved tables) (moved_joined done) (moved b) s) (body.join lower (there ls m a) tables
      done b s)
  unfolding body.join
  join ls m a tables done b s h =
      ap (λ o. lift (or_else o NoSuchTable) >>= Wide) (are.same b.table)
      ∙ tables_at b.table (slice_get S'.tables b.table) (are.own b.table) moved_joined Wide _ (λ t e.
      (λ i. shared ls m a tables b i >>= (λ same. Narrow (q b.table) same))
      ∙ follows moved_joined (body.shared (there ls m a) tables b) _ _ (λ same. go t.tree e same (out-Source s).is_left))
    where
      Narrow : ℕ → List Term → Lowering Joined
      Narrow tree same = cond (out-Source s).is_left (body.left_join lower (here ls m a) (moved_joined done) tree b.slot same (out-Source s).on)
          (body.inner_join lower (here ls m a) (moved_joined done) tree same (out-Source s).on)

      Wide : Table → Lowering Joined
      Wide t = body.shared (here ls m a) (map moved tables) (moved b) >>= (λ same. Narrow t.tree same)

      go : (k : ℕ) → k ≡ b.table → (same : List Term) (c : Bool) → Moves moved_joined
          (cond c (body.left_join lower (here ls m a) (moved_joined done) (q b.table) b.slot same (out-Source s).on)
          (body.inner_join lower (here ls m a) (moved_joined done) (q b.table) same (out-Source s).on))
          (cond c (body.left_join lower (there ls m a) done k b.slot same (out-Source s).on) (body.inner_join lower (there ls m a) done k same
          (out-Source s).on))
      go k e same true = left_join ls m a done b.table k b.slot same (out-Source s).on h e
      go k e same false = inner_join ls m a done b.table k same (out-Source s).on h e

  joins_from : (ls : List Level) (m a : Bool) (tables : List Bound) (done : Joined) (bs : List Bound) (ss : List Source) → AllByRecursion IsPlainOn ss
      → Moves moved_joined (body.joins_from lower (here ls m a) (map moved tables) (moved_joined done) (map moved bs) ss)
      (body.joins_from lower (there ls m a) tables done bs ss)
  joins_from ls m a tables done [] ss h = refl
  joins_from ls m a tables done (b ∷ bs) [] h = refl
  joins_from ls m a tables done (b ∷ bs) (s ∷ ss) h =
      binds moved_joined moved_joined _ _ _ _ (join ls m a tables done b s h.0) (λ longer. joins_from ls m a tables longer bs ss h.1)

  joins : (ls : List Level) (m a : Bool) (tables : List Bound) (ss : List Source) → AllByRecursion IsPlainOn ss
      → Moves moved_joined (body.joins lower (here ls m a) (map moved tables) ss) (body.joins lower (there ls m a) tables ss)
  unfolding body.joins
  joins ls m a tables ss h = elim (body.begins_with_on ss) as (λ c. Moves moved_joined
      (cond c (fail Misuse) (body.joins_from lower (here ls m a) (map moved tables) (record { steps = []; filter = [] }) (map moved tables) ss))
      (cond c (fail Misuse) (body.joins_from lower (there ls m a) tables (record { steps = []; filter = [] }) tables ss))) [
        | true ↦ refl
        | false ↦ joins_from ls m a tables (record { steps = []; filter = [] }) tables ss h
      ]

  abbrev pub moved_level : Level → Level
  moved_level = SameNames.moved_level S S' p q are

  abbrev pub moved_body : Body → Body
  moved_body b = record { level = moved_level b.level; steps = map moved_step b.steps; filter = b.filter }

  -- a SELECT of plain expressions from tables that are named in both schemas
  pub record IsPlainCore (core : Core) : Type 0 where
    pub from : AllByRecursion IsNamed (out-Core core).from
    pub on : AllByRecursion IsPlainOn (out-Core core).from
    pub shown : AllByRecursion (λ s. IsPlainShown (out-Shown s)) (out-Core core).shown
    pub filter : IsPlainIfAny (out-Core core).filter
    pub group : (out-Core core).group ≡ []
    pub having : (out-Core core).having ≡ None

  matching : (core : Core) → IsPlainCore core → (l : Level)
      → Moves moved_joined (body.matching lower (outermost S) (moved_level l) core) (body.matching lower (outermost S') l core)
  unfolding body.matching
  matching core h l = binds moved_joined moved_joined _ _ _ _ (joins (l ∷ []) false true l.tables (out-Core core).from h.on) (λ joined.
      (λ i. tests (l ∷ []) false true joined.filter (out-Core core).filter h.filter i >>= (λ filter. pure (record {
        steps = map moved_step
            joined.steps;
        filter = filter;
      })))
      ∙ follows moved_joined (body.tests lower (there (l ∷ []) false true) joined.filter (out-Core core).filter) _ _ (λ filter. refl))

  whole : (core : Core) → IsPlainCore core → Moves moved_body (body.body lower (outermost S) core) (body.body lower (outermost S') core)
  unfolding body.body
  whole core h = binds (map moved) moved_body _ _ _ _ (bounds (out-Core core).from h.from) (λ tables.
      (λ i. result tables core h.shown i >>= (λ columns. body.matching lower (outermost S) (record { tables = map moved tables; shown = columns })
      core
      >>= (λ joined. pure (record { level = record { tables = map moved tables; shown = columns }; steps = joined.steps; filter = joined.filter }))))
      ∙ follows moved_body (body.result lower (outermost S') (record { tables = tables; shown = [] }) core) _ _ (λ columns.
      binds moved_joined moved_body _ _ _ _ (matching core h (record { tables = tables; shown = columns })) (λ joined. refl)))

  -- ---- what follows WHERE

  keys : (ls : List Level) (m a : Bool) (outputs : List Output) (es : List Expr) → es ≡ []
      → order.keys lower (here ls m a) outputs es ≡ order.keys lower (there ls m a) outputs es
  unfolding order.keys
  keys ls m a outputs es e = ap (order.keys lower (here ls m a) outputs) e ∙ sym (ap (order.keys lower (there ls m a) outputs) e)

  having : (ls : List Level) (m a : Bool) (e : Option Expr) → e ≡ None → select.having (here ls m a) e ≡ select.having (there ls m a) e
  unfolding select.having body.tests
  having ls m a e none = ap (select.having (here ls m a)) none ∙ sym (ap (select.having (there ls m a)) none)

  abbrev pub IsPlainSort : Sort → Type 0
  IsPlainSort s = IsPlain 4 (order.peeled (out-Sort s).key)

  sort : (ls : List Level) (m a : Bool) (outputs : List Output) (done : List (Term × Key)) (s : Sort) → IsPlainSort s
      → order.sort lower (here ls m a) outputs done s ≡ order.sort lower (there ls m a) outputs done s
  unfolding order.sort order.key
  sort ls m a outputs done s h = λ i. go (order.alias_in outputs (order.peeled (out-Sort s).key)) i >>= (λ t. order.collation_of (out-Sort s).key
      >>= (λ how.
      order.placed done (record { collation = how; descending = (out-Sort s).descending }) (out-Sort s).nulls_first t))
    where
      go : (o : Option ℕ) → order.aliased_or lower (here ls m a) outputs (order.peeled (out-Sort s).key) o
          ≡ order.aliased_or lower (there ls m a) outputs (order.peeled (out-Sort s).key) o
      go (Some at) = refl
      go None = λ i. lowered 4 (order.peeled (out-Sort s).key) h ls m a i >>= (λ t.
          cond (order.is_numeral (order.peeled (out-Sort s).key)) (lift (order.place_in t) >>= scope.shown_again m outputs)
          (cond (reads_below 1 t) (fail Unsupported) (pure t)))

  sorts_from : (ls : List Level) (m a : Bool) (outputs : List Output) (done : List (Term × Key)) (ss : List Sort) → AllByRecursion IsPlainSort ss
      → order.sorts_from lower (here ls m a) outputs done ss ≡ order.sorts_from lower (there ls m a) outputs done ss
  sorts_from ls m a outputs done [] h = refl
  sorts_from ls m a outputs done (s ∷ ss) h = λ i. sort ls m a outputs done s h.0 i >>= (λ longer. sorts_from ls m a outputs longer ss h.1 i)

  sorts : (ls : List Level) (m a : Bool) (outputs : List Output) (ss : List Sort) → AllByRecursion IsPlainSort ss
      → order.sorts lower (here ls m a) outputs ss ≡ order.sorts lower (there ls m a) outputs ss
  unfolding order.sorts
  sorts ls m a outputs ss h = sorts_from ls m a outputs [] ss h

  abbrev pub moved_clauses : Clauses → Clauses
  moved_clauses c = record {
    body = moved_body c.body;
    is_grouped = c.is_grouped;
    keys = c.keys;
    collations = c.collations;
    having = c.having;
    order = c.order;
  }

  parts : (core : Core) (ss : List Sort) → IsPlainCore core → AllByRecursion IsPlainSort ss
      → Moves moved_clauses (select.parts S core ss) (select.parts S' core ss)
  unfolding select.parts
  parts core ss h hs = binds moved_body moved_clauses _ _ _ _ (whole core h) (λ b. follows moved_clauses get _ _ (λ so_far.
      let is_grouped = not (length (out-Core core).group == 0 && length so_far.aggregates == 0) in
      (λ i. keys (b.level ∷ []) false true b.level.shown (out-Core core).group h.group i >>= (λ by.
      having (b.level ∷ []) is_grouped true (out-Core core).having h.having i >>= (λ kept.
      sorts (b.level ∷ []) is_grouped true b.level.shown ss hs i >>= (λ o.
      pure (record { body = moved_body b; is_grouped = is_grouped; keys = by.0; collations = by.1; having = kept; order = o })))))
      ∙ follows moved_clauses (order.keys lower (there (b.level ∷ []) false true) b.level.shown (out-Core core).group) _ _ (λ by.
      follows moved_clauses (select.having (there (b.level ∷ []) is_grouped true) (out-Core core).having) _ _ (λ kept.
      follows moved_clauses (order.sorts lower (there (b.level ∷ []) is_grouped true) b.level.shown ss) _ _ (λ o. refl)))))

  -- the same SELECT, whose tables have their rows in these trees
  abbrev pub renamed : Core → List Sort → Term × Term → Checked (Draft × List Name × List (Option Collation))
  renamed core ss page = and_then (select.parts S' core ss (fresh 1 max_budget)) (λ r.
      and_then (select.assembled (out-Core core).distinct page.0 page.1 (moved_clauses r.0) r.1) (λ d.
      Ok (d, map (λ o. o.name) r.0.body.level.shown, map (λ o. o.carried.collation) r.0.body.level.shown)))

  pub named : (core : Core) (ss : List Sort) (page : Term × Term) → IsPlainCore core → AllByRecursion IsPlainSort ss
      → select.named S core ss page ≡ renamed core ss page
  unfolding select.named
  named core ss page h hs = (λ i. and_then (parts core ss h hs i (fresh 1 max_budget)) after) ∙ go (select.parts S' core ss (fresh 1 max_budget))
    where
      after : Clauses × State → Checked (Draft × List Name × List (Option Collation))
      after r = and_then (select.assembled (out-Core core).distinct page.0 page.1 r.0 r.1) (λ d.
          Ok (d, map (λ o. o.name) r.0.body.level.shown, map (λ o. o.carried.collation) r.0.body.level.shown))

      go : (r : Checked (Clauses × State)) → and_then (and_then r (λ x. pure (moved_clauses x.0) x.1)) after
          ≡ and_then r (λ r. after (moved_clauses r.0, r.1))
      go (Ok x) = refl
      go (Err e) = refl

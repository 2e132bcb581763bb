-- What a statement on one table, or a query of two, is compiled to, wherever in the schema they stand.
use Rattle.std.proofs.Common.{◌≡◌, ◌+◌, ◌^◌, ◌==◌, ℕ, zero, suc, negsuc, pos, List, [], ◌∷◌, ◌++◌, map, true, false}
use Rattle.std.proofs.Common.{cond, ◌&&◌, Option, Some, None, Ok, Err, slice_get, length, refl, sym, ap, ◌∙◌, arith}
use Rattle.std.proofs.Common.{option_map, option_and_then, unwrap_or, nat_lt}
use Rattle.std.specs.List.{AllByRecursion}
use Rattle.std.proofs.lemmas.Option.{slice_get_past}
use Rattle.std.proofs.lemmas.Bool.{lt-ltb, lt-leb}
use Rattle.sqlite.specs.Table.{Table}
use Rattle.sqlite.specs.Schema.{Schema}
use Rattle.sqlite_sql.specs.Term.{Term, col, lit}
use Rattle.sqlite_sql.specs.Query.{Query, Join, inner, end}
use Rattle.sqlite_value.specs.declared.value.Value.TheVariants.{Int}
use Rattle.sqlite_value.specs.declared.keys.Key.{Key}
use Rattle.sqlite_value.specs.declared.keys.Collation.{Collation}
use Rattle.sqlite_ast.specs.declared.Expr.{Expr}
use Rattle.sqlite_ast.specs.declared.Rows.{Rows}
use Rattle.sqlite_ast.specs.declared.Shown.{out-Shown}
use Rattle.sqlite_ast.specs.declared.Select.{Select, out-Select}
use Rattle.sqlite_ast.specs.declared.Source.{Source, out-Source}
use Rattle.sqlite_ast.specs.declared.Core.{out-Core}
use Rattle.sqlite_ast.specs.declared.Conflict.TheVariants as conflict
use Rattle.sqlite_ast.specs.declared.Statement.{Statement}
use Rattle.sqlite_ast.specs.declared.Statement.TheVariants as written
use Rattle.sqlite_ast.specs.declared.Origin.{Origin}
use Rattle.sqlite_ast.specs.declared.Origin.TheVariants as origin
use Rattle.sqlite_syntax.specs.declared.statement.Parsed.{Parsed}
use Rattle.sqlite_schema.specs.declared.command.Source.{Source as Rowed}
use Rattle.sqlite_schema.specs.declared.command.Command.{Command}
use Rattle.sqlite_schema.specs.declared.command.Command.TheVariants.{Select as Reads, Insert, Update, Delete}
pub use Rattle.sqlite_draft.specs.declared.query.Draft.{Draft}
use Rattle.sqlite_draft.specs.Query.{query_of}
use Rattle.sqlite_draft.specs.declared.join.Step.TheVariants.{Inner}
use Rattle.sqlite_typing.specs.Types.{accepts_program, accepts_after, is_count, filled, table_classes, row_classes}
use Rattle.sqlite_resolve.specs.declared.error.CompileError.TheVariants.{NoSuchTable, Unsupported}
use Rattle.sqlite_resolve.specs.Lowering.{Checked, and_then, or_else, ◌>>=◌, pure, fail, get, take_steps, fresh, max_budget}
use Rattle.sqlite_resolve.specs.Scope.{Name, Context}
use Rattle.sqlite_resolve.specs.Expr.{lower}
use Rattle.sqlite_resolve.specs.Body as body
use Rattle.sqlite_resolve.specs.Select as select
use Rattle.sqlite_resolve.specs.Program as program
use Rattle.sqlite_resolve.specs.Write as write
use Rattle.sqlite_resolve.specs.Reach.{any_scans}
use Rattle.sqlite_resolve.specs.Compile.{compiled, planned, meaning, timed, returning, command}
use Rattle.sqlite_resolve.specs.Compile.{insert, insert_or_abort, update, delete, read, new_rows}
use Rattle.sqlite_resolve.specs.Compile.{shows, formats_of, small, first, with_command, target}
use Rattle.sqlite.specs.Listing.{understood, reads_listing, misses_table}
use Rattle.sqlite.proofs.Callers.{IsPlain as IsBare, command_of}
use Rattle.sqlite_schema.specs.declared.program.Program.{Program}
use Rattle.record_tables.proofs.SameNames
use Rattle.record_tables.proofs.SameNames.{AreAt, IsPlain}
use Rattle.record_tables.proofs.SameQueries as queries
use Rattle.record_tables.proofs.SameQueries.{IsPlainIfAny}
use Rattle.record_tables.specs.Tables.{in_tree, Stands}

-- ---- schemas of these tables alone

abbrev pub of_one : Table → Schema
of_one t = record { tables = in_tree 0 t ∷ []; indexes = []; views = [] }

abbrev pub of_two : Table → Table → Schema
of_two t u = record { tables = in_tree 0 t ∷ in_tree 1 u ∷ []; indexes = []; views = [] }

module _ (schema : Schema) where
  abbrev pub place_of_one : ℕ → ℕ → ℕ
  place_of_one at zero = at
  place_of_one at (suc k) = length schema.tables

  abbrev pub tree_of_one : ℕ → ℕ → ℕ
  tree_of_one tree zero = tree
  tree_of_one tree (suc k) = 0

  abbrev pub place_of_two : ℕ → ℕ → ℕ → ℕ
  place_of_two at next zero = at
  place_of_two at next (suc k) = place_of_one next k

  abbrev pub tree_of_two : ℕ → ℕ → ℕ → ℕ
  tree_of_two tree next zero = tree
  tree_of_two tree next (suc k) = tree_of_one next k

  pub one_is_at : (t : Table) (is : Stands schema t) → AreAt schema (of_one t) (place_of_one is.place) (tree_of_one is.tree)
  one_is_at t is = record {
    same = λ k. same k;
    small = λ k. small k;
    low = (refl, tt);
    own = λ k. own k;
  }
    where
      same : (k : ℕ) → slice_get schema.tables (place_of_one is.place k) ≡ option_map (in_tree (tree_of_one is.tree k)) (slice_get (of_one t).tables
          k)
      same zero = is.listed
      same (suc k) = slice_get_past schema.tables (length schema.tables) (omega arith)

      small : (k : ℕ) → nat_lt (tree_of_one is.tree k) (2 ^ 31) ≡ true
      small zero = lt-ltb is.tree (2 ^ 31) is.small
      small (suc k) = refl

      own : (k : ℕ) (x : Table) → slice_get (of_one t).tables k ≡ Some x → x.tree ≡ k
      own zero x e = sym (ap (λ o. (unwrap_or o x).tree) e)
      own (suc k) x e = absurd cc

  pub two_are_at : (t u : Table) (is : Stands schema t) (next : Stands schema u)
      → AreAt schema (of_two t u) (place_of_two is.place next.place) (tree_of_two is.tree next.tree)
  two_are_at t u is next = record {
    same = λ k. same k;
    small = λ k. small k;
    low = (refl, (refl, tt));
    own = λ k. own k;
  }
    where
      same : (k : ℕ) → slice_get schema.tables (place_of_two is.place next.place k)
          ≡ option_map (in_tree (tree_of_two is.tree next.tree k)) (slice_get (of_two t u).tables k)
      same zero = is.listed
      same (suc zero) = next.listed
      same (suc (suc k)) = slice_get_past schema.tables (length schema.tables) (omega arith)

      small : (k : ℕ) → nat_lt (tree_of_two is.tree next.tree k) (2 ^ 31) ≡ true
      small zero = lt-ltb is.tree (2 ^ 31) is.small
      small (suc zero) = lt-ltb next.tree (2 ^ 31) next.small
      small (suc (suc k)) = refl

      own : (k : ℕ) (x : Table) → slice_get (of_two t u).tables k ≡ Some x → x.tree ≡ k
      own zero x e = sym (ap (λ o. (unwrap_or o x).tree) e)
      own (suc zero) x e = sym (ap (λ o. (unwrap_or o x).tree) e)
      own (suc (suc k)) x e = absurd cc

  -- ---- the types of the columns

  classes_are : (t : Table) (is : Stands schema t) → table_classes schema [] is.tree ≡ Some (row_classes t)
  classes_are t is = rw (lt-leb (2 ^ 31) is.tree is.small) (ap (option_map row_classes) is.own)

  pub accepts_one : (t : Table) (is : Stands schema t) (q : Query) → q.from ≡ inner is.tree end
      → accepts_after [] q (Some (row_classes t ∷ [])) && (is_count [] q.limit && is_count [] q.offset) ≡ true
      → accepts_program schema [] q [] ≡ true
  accepts_one t is q from h =
      ap (λ j. accepts_after [] q (filled schema [] [] j []) && (is_count [] q.limit && is_count [] q.offset)) from
      ∙ ap (λ o. accepts_after [] q (option_and_then (filled schema [] [] end) (option_map (λ row. [] ++ row ∷ []) o)) && (is_count [] q.limit &&
      is_count [] q.offset)) (classes_are t is)
      ∙ h

  pub accepts_two : (t u : Table) (is : Stands schema t) (next : Stands schema u) (q : Query) → q.from ≡ inner is.tree (inner next.tree end)
      → accepts_after [] q (Some (row_classes t ∷ row_classes u ∷ [])) && (is_count [] q.limit && is_count [] q.offset) ≡ true
      → accepts_program schema [] q [] ≡ true
  accepts_two t u is next q from h =
      ap (λ j. accepts_after [] q (filled schema [] [] j []) && (is_count [] q.limit && is_count [] q.offset)) from
      ∙ ap (λ o. accepts_after [] q (option_and_then (filled schema [] [] (inner next.tree end)) (option_map (λ row. [] ++ row ∷ []) o)) &&
      (is_count [] q.limit && is_count [] q.offset)) (classes_are t is)
      ∙ ap (λ o. accepts_after [] q (option_and_then (filled schema [] [] end) (option_map (λ row. (row_classes t ∷ []) ++ row ∷ []) o)) &&
      (is_count [] q.limit && is_count [] q.offset)) (classes_are u next)
      ∙ h

-- ---- from a text to a command

chain : {A B : Type 0} (r : Checked A) (a : A) (f : A → Checked B) (out : Checked B) → r ≡ Ok a → f a ≡ out → and_then r f ≡ out
chain r a f out e k = ap (λ x. and_then x f) e ∙ k

-- a text that is this statement, and takes no moment of time
pub record IsStatement (text : List ℕ) (p : Parsed) (s : Statement) : Type 0 where
  pub read : first text ≡ Ok p
  pub is : p.statement ≡ s
  pub bare : p.formats ≡ []

module _ (schema : Schema) where
  -- a statement that shows no rows
  pub compiles : (text : List ℕ) (p : Parsed) (s : Statement) (c : Command) → IsStatement text p s
      → timed schema [] s ≡ [] → returning schema (small p.names + 0) s ≡ Ok None → command schema [] (small p.names + 0) s ≡ Ok c
      → compiled schema text ≡ Ok (with_command p ([], (c, None)))
  unfolding compiled planned meaning
  compiles text p s c h untimed shown is = chain (first text) p (λ p. and_then (planned schema p) (λ plan. Ok (with_command p plan))) _ h.read
      (chain (planned schema p) ([], (c, None)) (λ plan. Ok (with_command p plan)) _ plan refl)
    where
      goes : meaning schema p (small p.names + 0) ≡ Ok (c, None)
      goes = rw (h.is, h.bare) (chain (returning schema (small p.names + 0) s) None _ _ shown (chain (command schema [] (small p.names + 0) s) c _ _
          is refl))

      times : timed schema p.formats p.statement ≡ []
      times = rw (h.is, h.bare) untimed

      plan : planned schema p ≡ Ok ([], (c, None))
      plan = ap (λ f. and_then (meaning schema p (small p.names + small f)) (λ found. Ok (f, found))) times
          ∙ chain (meaning schema p (small p.names + 0)) (c, None) (λ found. Ok ([], found)) _ goes refl

  module _ (t : Table) (is : Stands schema t) where
    at_table : {B : Type 0} (f : ℕ → Table → Checked B)
        → and_then (target schema t.name) (λ at. and_then (body.table_at schema at) (f at)) ≡ f is.place (in_tree is.tree t)
    at_table f = ap (λ o. and_then (or_else o NoSuchTable) (λ at. and_then (body.table_at schema at) (f at))) is.named
        ∙ ap (λ o. and_then (or_else o NoSuchTable) (f is.place)) is.listed

    pub inserts : (base : ℕ) (columns : List Name) (rows : Rows) (s : Rowed) → new_rows schema (in_tree is.tree t) base columns rows ≡ Ok s
        → insert schema base t.name columns rows ≡ Ok (Insert is.place s)
    unfolding insert
    inserts base columns rows s h = at_table (λ at table. and_then (new_rows schema table base columns rows) (λ s. Ok (Insert at s)))
        ∙ chain (new_rows schema (in_tree is.tree t) base columns rows) s _ _ h refl

    pub untimed : t.stamps.formats ≡ [] → formats_of schema t.name ≡ []
    untimed h = ap (λ o. unwrap_or (option_map (λ (x : Table). x.stamps.formats) (option_and_then (slice_get schema.tables) o)) []) is.named
        ∙ ap (λ o. unwrap_or (option_map (λ (x : Table). x.stamps.formats) o) []) is.listed ∙ h

    pub compiles_insert : (text : List ℕ) (p : Parsed) (columns : List Name) (rows : Rows) (s : Rowed)
        → IsStatement text p (written.Insert conflict.Abort t.name columns rows [] []) → t.stamps.formats ≡ []
        → new_rows schema (in_tree is.tree t) (small p.names + 0) columns rows ≡ Ok s
        → compiled schema text ≡ Ok (with_command p ([], (Insert is.place s, None)))
    unfolding timed returning shows command insert_or_abort
    compiles_insert text p columns rows s h plain news =
        compiles text p (written.Insert conflict.Abort t.name columns rows [] []) (Insert is.place s) h (untimed plain) refl (inserts (small p.names
        + 0) columns rows s news)

    -- ---- rows that are picked

    abbrev pub only : Context
    only = record { schema = of_one t; levels = write.level_of 0 t.name ∷ []; may_aggregate = false; may_alias = true }

    abbrev over : Context
    over = write.over schema is.place t.name

    lowered : (n : ℕ) (e : Expr) → IsPlain n e → lower over e ≡ lower only e
    lowered n e h = SameNames.lowers schema (of_one t) (place_of_one schema is.place) (tree_of_one schema is.tree) (one_is_at schema t is) n e h
        (write.level_of 0 t.name ∷ []) false true

    picked : (project : List Term) (test : Option Expr) → IsPlainIfAny test
        → write.picked over (in_tree is.tree t) project test ≡ write.picked only (in_tree is.tree t) project test
    unfolding write.picked
    picked project test h = λ i. queries.tests schema (of_one t) (place_of_one schema is.place) (tree_of_one schema is.tree) (one_is_at schema t is)
        (write.level_of 0 t.name ∷ []) false true [] test h i >>= (λ filter. take_steps >>= (λ steps. pure (write.simple (Inner is.tree ∷ steps)
        filter project)))

    abbrev pub picks : List Term → Option Expr → Checked Draft
    picks project test = select.value_of (write.picked only (in_tree is.tree t) project test (fresh 2 max_budget))

    pub compiles_delete : (text : List ℕ) (p : Parsed) (test : Option Expr) (d : Draft) → IsStatement text p (written.Delete t.name test [])
        → IsPlainIfAny test → picks (col 1 0 ∷ []) test ≡ Ok d → accepts_program schema [] (query_of d) [] ≡ true
        → compiled schema text ≡ Ok (with_command p ([], (Delete is.place (record { lets = []; body = query_of d }), None)))
    unfolding timed returning shows command delete write.deleted program.program
    compiles_delete text p test d h plain picked_is accepted =
        compiles text p (written.Delete t.name test []) (Delete is.place (record { lets = []; body = query_of d })) h refl refl
        (at_table (λ at table. and_then (write.deleted schema at table test) (λ d. and_then (program.program schema [] d) (λ q. Ok (Delete at q))))
        ∙ chain (write.deleted schema is.place (in_tree is.tree t) test) d _ _
        ((λ i. select.value_of (picked (col 1 0 ∷ []) test plain i (fresh 2 max_budget))) ∙ picked_is)
        (chain (program.program schema [] d) (record { lets = []; body = query_of d }) _ _ (rw accepted) refl))

    -- ---- an UPDATE

    abbrev pub ArePlain : List (Name × Expr) → Type 0
    ArePlain = AllByRecursion (λ (set : Name × Expr). IsPlain 4 set.1)

    abbrev Sets : Type 0
    Sets = List ℕ × List Term

    sets_from : (table : Table) (done : Sets) (sets : List (Name × Expr)) → ArePlain sets
        → write.sets_from over table done sets ≡ write.sets_from only table done sets
    sets_from table done [] h = refl
    sets_from table done (set ∷ more) h = λ i s.
        and_then (write.with_place table done.0 set.0) (λ at. and_then (lowered 4 set.1 h.0 i s) (λ r. sets_from table (at, done.1 ++ r.0 ∷ []) more
        h.1 i r.1))

    assigned : (table : Table) (sets : List (Name × Expr)) → ArePlain sets → write.assigned over table sets ≡ write.assigned only table sets
    unfolding write.assigned write.sets
    assigned table sets h = λ i. sets_from table ([], []) sets h i >>= (λ found. get >>= (λ s. cond (any_scans table.tree s.steps) (fail
        Unsupported) (pure found)))

    abbrev pub updates : List (Name × Expr) → Option Expr → Checked Draft
    updates sets test = write.updated_in only (in_tree is.tree t) sets test

    updated_in : (sets : List (Name × Expr)) (test : Option Expr) → ArePlain sets → IsPlainIfAny test
        → write.updated_in over (in_tree is.tree t) sets test ≡ updates sets test
    unfolding write.updated_in
    updated_in sets test hs h = λ i. and_then (assigned (in_tree is.tree t) sets hs i (fresh 2 max_budget)) (λ r.
        and_then (write.row (in_tree is.tree t) None r.0.0 (col 1 0 ∷ []) r.0.1) (λ project. select.value_of (picked project test h i r.1)))

    pub compiles_update : (text : List ℕ) (p : Parsed) (sets : List (Name × Expr)) (test : Option Expr) (d : Draft)
        → IsStatement text p (written.Update t.name sets test []) → ArePlain sets → IsPlainIfAny test
        → updates sets test ≡ Ok d → accepts_program schema [] (query_of d) [] ≡ true
        → compiled schema text ≡ Ok (with_command p ([], (Update is.place (record { lets = []; body = query_of d }), None)))
    unfolding timed returning shows command update write.updated program.program
    compiles_update text p sets test d h hs plain updated accepted =
        compiles text p (written.Update t.name sets test []) (Update is.place (record { lets = []; body = query_of d })) h refl refl
        (at_table (λ at table. and_then (write.updated schema at table sets test) (λ d. and_then (program.program schema [] d) (λ q. Ok (Update at
        q))))
        ∙ chain (write.updated schema is.place (in_tree is.tree t) sets test) d _ _ (updated_in sets test hs plain ∙ updated)
        (chain (program.program schema [] d) (record { lets = []; body = query_of d }) _ _ (rw accepted) refl))

  -- ---- a query

  -- no WITH, and no other part of a compound
  pub record IsAlone (s : Select) : Type 0 where
    pub with : (out-Select s).with ≡ []
    pub others : (out-Select s).others ≡ []

  abbrev pub IsTable : Origin Select → Type 0
  IsTable (origin.Table name) = Unit {0}
  IsTable (origin.Query s) = ⊥

  abbrev pub AreTables : List Source → Type 0
  AreTables = AllByRecursion (λ (s : Source). IsTable (out-Source s).origin)

  abbrev Nested : Type 0
  Nested = Schema → Select → program.Building program.Shown

  sources_from : (Q : Nested) (slot : ℕ) (ss : List Source) → AreTables ss → program.sources_from Q schema schema slot ss [] ≡ Ok (schema, [])
  unfolding program.source
  sources_from Q slot [] h = refl
  sources_from Q slot (s ∷ ss) h = chain (program.source Q schema schema slot (out-Source s).origin []) (schema, []) _ _ (one (out-Source s).origin
      h.0) (sources_from Q (slot + 1) ss h.1)
    where
      one : (o : Origin Select) → IsTable o → program.source Q schema schema slot o [] ≡ Ok (schema, [])
      one (origin.Table name) h = refl
      one (origin.Query s) h = absurd h

  query_is : (s : Select) (page : Term × Term) (found : program.Shown) → IsAlone s → select.paging schema s ≡ Ok page
      → AreTables (out-Core (out-Select s).first).from → select.named schema (out-Select s).first (out-Select s).order page ≡ Ok found
      → program.query schema s ≡ Ok (found, [])
  unfolding program.query program.query_to program.level program.with program.whole program.alone program.single program.sources program.viewing
  query_is s page found alone paged tables is =
      let Q : Nested = program.query_to 15 in
      chain (program.with Q schema (out-Select s).with []) (schema, []) (λ r. program.whole Q r.0 s r.1) _
      (ap (λ l. program.with Q schema l []) alone.with)
      (chain (program.lift (select.paging schema s) []) (page, []) _ _ (ap (λ r. program.lift r []) paged)
      (ap (λ l. (cond (length l == 0) (program.alone Q schema (out-Select s).first (out-Select s).order page) (program.compound Q schema s page))
      []) alone.others
      ∙ chain (program.single Q schema (out-Select s).first (out-Select s).order page []) ((found, schema), []) _ _
      (chain (program.sources Q schema (out-Core (out-Select s).first).from []) (schema, []) _ _ (sources_from Q 1 (out-Core (out-Select
      s).first).from tables)
      (ap (λ r. program.or_view Q (program.viewing Q schema (out-Select s).first (out-Select s).order page 63) schema schema r []) is))
      refl))

  pub compiles_query : (text : List ℕ) (p : Parsed) (s : Select) (page : Term × Term) (d : Draft) (names : List Name) (how : List (Option Collation))
      → IsStatement text p (written.Select s) → IsAlone s → select.paging schema s ≡ Ok page → AreTables (out-Core (out-Select s).first).from
      → select.named schema (out-Select s).first (out-Select s).order page ≡ Ok (d, names, how) → accepts_program schema [] (query_of d) [] ≡ true
      → compiled schema text ≡ Ok (with_command p ([], (Reads (record { lets = []; body = query_of d }) names, None)))
  unfolding timed returning command read program.program
  compiles_query text p s page d names how h alone paged tables is accepted =
      compiles text p (written.Select s) (Reads (record { lets = []; body = query_of d }) names) h refl refl
      (chain (program.query schema s) ((d, names, how), []) _ _ (query_is s page (d, names, how) alone paged tables is)
      (chain (program.program schema [] d) (record { lets = []; body = query_of d }) _ _ (rw accepted) refl))

-- ---- the meaning of a text

-- the text is this command, which shows no rows that it wrote and takes no moment of time, and it is no query of the listing of the schema
pub record Means (schema : Schema) (text : List ℕ) (c : Command) : Type 0 where
  pub is : command_of (understood schema text) ≡ c
  pub plain : IsBare (understood schema text)
  pub unlisted : reads_listing schema text ≡ false

means : (schema : Schema) (text : List ℕ) (p : Parsed) (c : Command) → compiled schema text ≡ Ok (with_command p ([], (c, None)))
    → Means schema text c
unfolding understood
means schema text p c is = record { is = rw is; plain = rw is (refl, refl); unlisted = ap misses_table is }

abbrev parsed_in : Checked Parsed → Parsed
parsed_in (Ok p) = p
parsed_in (Err e) = record { statement = written.Empty; names = []; formats = []; start = 0; end = 0; tail = 0 }

abbrev pub parsed_from : List ℕ → Parsed
parsed_from text = parsed_in (first text)

-- the text is a statement that takes no moment of time
abbrev pub IsRead : List ℕ → Type 0
IsRead text = (first text ≡ Ok (parsed_from text)) × ((parsed_from text).formats ≡ [])

-- a query of these trees
abbrev pub draft_of : Join → List Term → List Term → List (Term × Key) → Draft
draft_of from tests columns order = record {
  from = from;
  filter = tests;
  group = None;
  project = columns;
  distinct = false;
  collations = [];
  order = order;
  limit = lit (Int (negsuc 0));
  offset = lit (Int (pos 0));
}

abbrev pub program_of : Draft → Program
program_of d = record { lets = []; body = query_of d }

-- the query of tables that have these columns passes the test of types
abbrev pub IsTyped : List Table → Query → Type 0
IsTyped tables q = accepts_after [] q (Some (map row_classes tables)) && (is_count [] q.limit && is_count [] q.offset) ≡ true

module _ (schema : Schema) (t : Table) (is : Stands schema t) where
  abbrev pub IsInsert : Statement → ℕ → Rowed → Type 0
  IsInsert (written.Insert how name columns rows clauses shown) base s =
      (how ≡ conflict.Abort) × (name ≡ t.name) × (clauses ≡ []) × (shown ≡ []) × (new_rows schema (in_tree is.tree t) base columns rows ≡ Ok s)
  IsInsert _ base s = ⊥

  pub means_insert : (text : List ℕ) (s : Rowed) → IsRead text → t.stamps.formats ≡ []
      → IsInsert (parsed_from text).statement (small (parsed_from text).names + 0) s → Means schema text (Insert is.place s)
  means_insert text s it untimed = go (parsed_from text).statement refl
    where
      go : (w : Statement) → (parsed_from text).statement ≡ w → IsInsert w (small (parsed_from text).names + 0) s
          → Means schema text (Insert is.place s)
      go (written.Insert how name columns rows clauses shown) e h = means schema text (parsed_from text) (Insert is.place s)
          (compiles_insert schema t is text (parsed_from text) columns rows s
          (record { read = it.0; is = e ∙ (λ i. written.Insert (h.0 i) (h.1 i) columns rows (h.2 i) (h.3 i)); bare = it.1 }) untimed h.4)
      go _ e h = absurd h

  abbrev pub IsDelete : Statement → Draft → Type 0
  IsDelete (written.Delete name test shown) d = (name ≡ t.name) × (shown ≡ []) × IsPlainIfAny test × (picks schema t is (col 1 0 ∷ []) test ≡ Ok d)
  IsDelete _ d = ⊥

  pub means_delete : (text : List ℕ) (d : Draft) → IsRead text → (query_of d).from ≡ inner is.tree end → IsTyped (t ∷ []) (query_of d)
      → IsDelete (parsed_from text).statement d → Means schema text (Delete is.place (program_of d))
  means_delete text d it from typed = go (parsed_from text).statement refl
    where
      go : (w : Statement) → (parsed_from text).statement ≡ w → IsDelete w d → Means schema text (Delete is.place (program_of d))
      go (written.Delete name test shown) e h = means schema text (parsed_from text) (Delete is.place (program_of d))
          (compiles_delete schema t is text (parsed_from text) test d
          (record { read = it.0; is = e ∙ (λ i. written.Delete (h.0 i) test (h.1 i)); bare = it.1 }) h.2 h.3
          (accepts_one schema t is (query_of d) from typed))
      go _ e h = absurd h

  abbrev pub IsUpdate : Statement → Draft → Type 0
  IsUpdate (written.Update name sets test shown) d =
      (name ≡ t.name) × (shown ≡ []) × ArePlain schema t is sets × IsPlainIfAny test × (updates schema t is sets test ≡ Ok d)
  IsUpdate _ d = ⊥

  pub means_update : (text : List ℕ) (d : Draft) → IsRead text → (query_of d).from ≡ inner is.tree end → IsTyped (t ∷ []) (query_of d)
      → IsUpdate (parsed_from text).statement d → Means schema text (Update is.place (program_of d))
  means_update text d it from typed = go (parsed_from text).statement refl
    where
      go : (w : Statement) → (parsed_from text).statement ≡ w → IsUpdate w d → Means schema text (Update is.place (program_of d))
      go (written.Update name sets test shown) e h = means schema text (parsed_from text) (Update is.place (program_of d))
          (compiles_update schema t is text (parsed_from text) sets test d
          (record { read = it.0; is = e ∙ (λ i. written.Update (h.0 i) sets test (h.1 i)); bare = it.1 }) h.2 h.3 h.4
          (accepts_one schema t is (query_of d) from typed))
      go _ e h = absurd h

-- ---- queries

-- without LIMIT and OFFSET
abbrev pub no_page : Term × Term
no_page = (lit (Int (negsuc 0)), lit (Int (pos 0)))

module _ (schema small : Schema) (place tree : ℕ → ℕ) (are : AreAt schema small place tree) (page : Term × Term) (d : Draft) (names : List Name)
    (how : List (Option Collation)) where
  -- a SELECT of plain expressions over a schema of these tables alone, whose places and trees in the schema are given
  abbrev pub IsQuery : Statement → Type 0
  IsQuery (written.Select s) = ((out-Select s).with ≡ []) × ((out-Select s).others ≡ []) × (select.paging schema s ≡ Ok page)
      × AreTables schema (out-Core (out-Select s).first).from
      × AllByRecursion (queries.IsNamed schema small place tree are) (out-Core (out-Select s).first).from
      × AllByRecursion (queries.IsPlainOn schema small place tree are) (out-Core (out-Select s).first).from
      × AllByRecursion (λ x. queries.IsPlainShown (out-Shown x)) (out-Core (out-Select s).first).shown
      × IsPlainIfAny (out-Core (out-Select s).first).filter
      × ((out-Core (out-Select s).first).group ≡ []) × ((out-Core (out-Select s).first).having ≡ None)
      × AllByRecursion (queries.IsPlainSort schema small place tree are) (out-Select s).order
      × (queries.renamed schema small place tree are (out-Select s).first (out-Select s).order page ≡ Ok (d, names, how))
  IsQuery _ = ⊥

  means_query : (text : List ℕ) → IsRead text → accepts_program schema [] (query_of d) [] ≡ true
      → IsQuery (parsed_from text).statement → Means schema text (Reads (program_of d) names)
  means_query text it accepted = go (parsed_from text).statement refl
    where
      go : (w : Statement) → (parsed_from text).statement ≡ w → IsQuery w → Means schema text (Reads (program_of d) names)
      go (written.Select s) e h = means schema text (parsed_from text) (Reads (program_of d) names)
          (compiles_query schema text (parsed_from text) s page d names how (record { read = it.0; is = e; bare = it.1 })
          (record { with = h.0; others = h.1 }) h.2 h.3
          (queries.named schema small place tree are (out-Select s).first (out-Select s).order page
          (record { from = h.4; on = h.5; shown = h.6; filter = h.7; group = h.8; having = h.9 }) h.10 ∙ h.11) accepted)
      go _ e h = absurd h

module _ (schema : Schema) (t : Table) (is : Stands schema t) (page : Term × Term) (d : Draft) (names : List Name) (how : List (Option Collation))
  where
    abbrev pub IsQueryOne : Statement → Type 0
    IsQueryOne = IsQuery schema (of_one t) (place_of_one schema is.place) (tree_of_one schema is.tree) (one_is_at schema t is) page d names how

    pub means_query_one : (text : List ℕ) → IsRead text → (query_of d).from ≡ inner is.tree end
        → IsTyped (t ∷ []) (query_of d) → IsQueryOne (parsed_from text).statement → Means schema text (Reads (program_of d) names)
    means_query_one text it from typed = means_query schema (of_one t) (place_of_one schema is.place) (tree_of_one schema is.tree)
        (one_is_at schema t is) page d names how text it (accepts_one schema t is (query_of d) from typed)

module _ (schema : Schema) (t u : Table) (is : Stands schema t) (next : Stands schema u) (page : Term × Term) (d : Draft) (names : List Name)
    (how : List (Option Collation)) where
  abbrev pub IsQueryTwo : Statement → Type 0
  IsQueryTwo = IsQuery schema (of_two t u) (place_of_two schema is.place next.place) (tree_of_two schema is.tree next.tree)
      (two_are_at schema t u is next) page d names how

  pub means_query_two : (text : List ℕ) → IsRead text → (query_of d).from ≡ inner is.tree (inner next.tree end)
      → IsTyped (t ∷ u ∷ []) (query_of d) → IsQueryTwo (parsed_from text).statement → Means schema text (Reads (program_of d) names)
  means_query_two text it from typed = means_query schema (of_two t u) (place_of_two schema is.place next.place)
      (tree_of_two schema is.tree next.tree) (two_are_at schema t u is next) page d names how text it
      (accepts_two schema t u is next (query_of d) from typed)

use Rattle.std.proofs.Common.{◌≡◌, ◌+◌, ◌++◌, take, drop}
use Rattle.cli_page.specs.Columns.{in_years, in_column, in_columns, no_column, first_year, columns_from}
use Rattle.cli_page.proofs.years.Years.columns_of.Given as goal

abbrev pub invariant-loop-year : goal.invariant-loop-year
invariant-loop-year l = record {
  columns : l.columns.items ++ columns_from l.span l.column (drop l.year-index l.self.years.items)
      ≡ columns_from l.span (no_column first_year) l.self.years.items;
  sum : in_columns l.columns.items + in_column l.column ≡ in_years (take l.year-index l.self.years.items);
}

-- Mirrors code: the rows of the router, which are the shapes of paths.
use Rattle.std.specs.Prelude.{[], ◌∷◌, codes}
use Rattle.matchit.specs.Rows.{RowsOf, param_token, catch_all_token}
use Rattle.matchit.specs.Router.{RouteOf}

-- a path that is a name alone
abbrev pub name_row : RouteOf (Unit {0})
name_row = record { pattern = 47 ∷ param_token ∷ []; text = codes "/{name}"; names = (2, 6) ∷ []; value = tt }

-- a path of a name with parts after it
abbrev pub parts_row : RouteOf (Unit {0})
parts_row = record {
  pattern = 47 ∷ param_token ∷ 47 ∷ catch_all_token ∷ [];
  text = codes "/{name}/{*parts}";
  names = (2, 6) ∷ (10, 15) ∷ [];
  value = tt;
}

-- the rows of the router, in its order: the longer one first
abbrev pub path_rows : RowsOf (RouteOf (Unit {0}))
path_rows = (parts_row.pattern, parts_row) ∷ (name_row.pattern, name_row) ∷ []

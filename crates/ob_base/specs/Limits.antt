-- Every bound that a definition speaks of, by name. The code's constants stand in `limits`.
use Rattle.std.specs.Prelude.{ℕ, ◌^◌}

-- the greatest id of a row
abbrev pub max_id : ℕ
max_id = 4294967295

-- how deep a tree of rows may be; a root has depth 1
abbrev pub max_tree_depth : ℕ
max_tree_depth = 64

-- how many targets a many2many cell may have
abbrev pub max_targets : ℕ
max_targets = 65536

-- the length in bytes of a char and of a selection
abbrev pub max_char_bytes : ℕ
max_char_bytes = 8192

-- the length in bytes of a text
abbrev pub max_text_bytes : ℕ
max_text_bytes = 65536

-- how many modules may be loaded, base and stock among them
abbrev pub max_modules : ℕ
max_modules = 64

-- the length in bytes of a module file
abbrev pub max_module_bytes : ℕ
max_module_bytes = 1048576

-- how many models there may be
abbrev pub max_models : ℕ
max_models = 512

-- how many fields a model may have, automatic and delegated ones among them
abbrev pub max_fields : ℕ
max_fields = 256

-- the length in bytes of the name of a model or a field
abbrev pub max_name_bytes : ℕ
max_name_bytes = 64

-- how many checks a model may have
abbrev pub max_checks : ℕ
max_checks = 256

-- the length in bytes of an expression
abbrev pub max_expression_bytes : ℕ
max_expression_bytes = 4096

-- how deep an expression may nest
abbrev pub max_expression_depth : ℕ
max_expression_depth = 24

-- how many steps a path may have
abbrev pub max_path_steps : ℕ
max_path_steps = 6

-- the greatest stratum of a field
abbrev pub max_stratum : ℕ
max_stratum = 8

-- how many operators and criteria a domain may have, inner domains included
abbrev pub max_domain_terms : ℕ
max_domain_terms = 4096

-- how many steps a dotted field of a domain may have
abbrev pub max_dotted_steps : ℕ
max_dotted_steps = 16

-- the length in bytes of a line of requests, without its line feed, and of an HTTP body
abbrev pub max_line_bytes : ℕ
max_line_bytes = 2 ^ 23

-- the length in bytes of an HTTP head, with the empty lines before it and the one that ends it
abbrev pub max_head_bytes : ℕ
max_head_bytes = 16384

-- how many fields an HTTP head may have
abbrev pub max_head_fields : ℕ
max_head_fields = 64

-- the length in bytes of the whole input of a run
abbrev pub max_input_bytes : ℕ
max_input_bytes = 2 ^ 40

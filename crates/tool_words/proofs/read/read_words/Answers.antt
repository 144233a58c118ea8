use Rattle.std.proofs.Common.{drop, map}
use Rattle.std.specs.Prelude.{option_and_then, string_bytes}
use Rattle.tool_words.specs.Asked.{explain_of, explain_options, format_of, format_options, query_of, query_options, test_of, test_options, workload_of}
use Rattle.tool_words.specs.Said.{said}
use Rattle.tool_words.proofs.Asking.{engines_declared, explains_sound, formats_sound, in_batches, no_command, one_instant, queries_sound, some_files, some_series, tests_sound, workloads_sound}
use Rattle.tool_words.proofs.read.read_words.Goals as goal

pub returns-in-promqltest-clause-files : goal.returns-in-promqltest-clause-files
returns-in-promqltest-clause-files c =
    let items = said test_options (drop 1 (map string_bytes c.args.words.now)) in
    some_files c.args.boxes (option_and_then (test_of c.args.boxes) items) (tests_sound c.args.boxes items) c.read_test.result c.read_test.ensures

pub returns-in-promqltest-clause-alone : goal.returns-in-promqltest-clause-alone
returns-in-promqltest-clause-alone c =
    let items = said test_options (drop 1 (map string_bytes c.args.words.now)) in
    one_instant c.args.boxes (option_and_then (test_of c.args.boxes) items) (tests_sound c.args.boxes items) c.read_test.result c.read_test.ensures

pub returns-in-promqltest-clause-series : goal.returns-in-promqltest-clause-series
returns-in-promqltest-clause-series c =
    let items = said test_options (drop 1 (map string_bytes c.args.words.now)) in
    some_series c.args.boxes (option_and_then (test_of c.args.boxes) items) (tests_sound c.args.boxes items) c.read_test.result c.read_test.ensures

pub returns-in-promqltest-clause-batch : goal.returns-in-promqltest-clause-batch
returns-in-promqltest-clause-batch c =
    let items = said test_options (drop 1 (map string_bytes c.args.words.now)) in
    in_batches c.args.boxes (option_and_then (test_of c.args.boxes) items) (tests_sound c.args.boxes items) c.read_test.result c.read_test.ensures

pub returns-in-promqltest-clause-engines : goal.returns-in-promqltest-clause-engines
returns-in-promqltest-clause-engines c =
    let items = said test_options (drop 1 (map string_bytes c.args.words.now)) in
    engines_declared c.args.boxes (option_and_then (test_of c.args.boxes) items) (tests_sound c.args.boxes items) c.read_test.result c.read_test.ensures

pub returns-in-query-clause-files : goal.returns-in-query-clause-files
returns-in-query-clause-files c =
    let items = said query_options (drop 1 (map string_bytes c.args.words.now)) in
    some_files c.args.boxes (option_and_then (query_of c.args.boxes) items) (queries_sound c.args.boxes items) c.read_query.result c.read_query.ensures

pub returns-in-query-clause-alone : goal.returns-in-query-clause-alone
returns-in-query-clause-alone c =
    let items = said query_options (drop 1 (map string_bytes c.args.words.now)) in
    one_instant c.args.boxes (option_and_then (query_of c.args.boxes) items) (queries_sound c.args.boxes items) c.read_query.result c.read_query.ensures

pub returns-in-query-clause-series : goal.returns-in-query-clause-series
returns-in-query-clause-series c =
    let items = said query_options (drop 1 (map string_bytes c.args.words.now)) in
    some_series c.args.boxes (option_and_then (query_of c.args.boxes) items) (queries_sound c.args.boxes items) c.read_query.result c.read_query.ensures

pub returns-in-query-clause-batch : goal.returns-in-query-clause-batch
returns-in-query-clause-batch c =
    let items = said query_options (drop 1 (map string_bytes c.args.words.now)) in
    in_batches c.args.boxes (option_and_then (query_of c.args.boxes) items) (queries_sound c.args.boxes items) c.read_query.result c.read_query.ensures

pub returns-in-query-clause-engines : goal.returns-in-query-clause-engines
returns-in-query-clause-engines c =
    let items = said query_options (drop 1 (map string_bytes c.args.words.now)) in
    engines_declared c.args.boxes (option_and_then (query_of c.args.boxes) items) (queries_sound c.args.boxes items) c.read_query.result c.read_query.ensures

pub returns-in-workload-clause-files : goal.returns-in-workload-clause-files
returns-in-workload-clause-files c =
    let items = said test_options (drop 1 (map string_bytes c.args.words.now)) in
    some_files c.args.boxes (option_and_then (workload_of c.args.boxes) items) (workloads_sound c.args.boxes items) c.read_workload.result c.read_workload.ensures

pub returns-in-workload-clause-alone : goal.returns-in-workload-clause-alone
returns-in-workload-clause-alone c =
    let items = said test_options (drop 1 (map string_bytes c.args.words.now)) in
    one_instant c.args.boxes (option_and_then (workload_of c.args.boxes) items) (workloads_sound c.args.boxes items) c.read_workload.result c.read_workload.ensures

pub returns-in-workload-clause-series : goal.returns-in-workload-clause-series
returns-in-workload-clause-series c =
    let items = said test_options (drop 1 (map string_bytes c.args.words.now)) in
    some_series c.args.boxes (option_and_then (workload_of c.args.boxes) items) (workloads_sound c.args.boxes items) c.read_workload.result c.read_workload.ensures

pub returns-in-workload-clause-batch : goal.returns-in-workload-clause-batch
returns-in-workload-clause-batch c =
    let items = said test_options (drop 1 (map string_bytes c.args.words.now)) in
    in_batches c.args.boxes (option_and_then (workload_of c.args.boxes) items) (workloads_sound c.args.boxes items) c.read_workload.result c.read_workload.ensures

pub returns-in-workload-clause-engines : goal.returns-in-workload-clause-engines
returns-in-workload-clause-engines c =
    let items = said test_options (drop 1 (map string_bytes c.args.words.now)) in
    engines_declared c.args.boxes (option_and_then (workload_of c.args.boxes) items) (workloads_sound c.args.boxes items) c.read_workload.result c.read_workload.ensures

pub returns-in-format-clause-files : goal.returns-in-format-clause-files
returns-in-format-clause-files c =
    let items = said format_options (drop 1 (map string_bytes c.args.words.now)) in
    some_files c.args.boxes (option_and_then format_of items) (formats_sound c.args.boxes items) c.read_format.result c.read_format.ensures

pub returns-in-format-clause-alone : goal.returns-in-format-clause-alone
returns-in-format-clause-alone c =
    let items = said format_options (drop 1 (map string_bytes c.args.words.now)) in
    one_instant c.args.boxes (option_and_then format_of items) (formats_sound c.args.boxes items) c.read_format.result c.read_format.ensures

pub returns-in-format-clause-series : goal.returns-in-format-clause-series
returns-in-format-clause-series c =
    let items = said format_options (drop 1 (map string_bytes c.args.words.now)) in
    some_series c.args.boxes (option_and_then format_of items) (formats_sound c.args.boxes items) c.read_format.result c.read_format.ensures

pub returns-in-format-clause-batch : goal.returns-in-format-clause-batch
returns-in-format-clause-batch c =
    let items = said format_options (drop 1 (map string_bytes c.args.words.now)) in
    in_batches c.args.boxes (option_and_then format_of items) (formats_sound c.args.boxes items) c.read_format.result c.read_format.ensures

pub returns-in-format-clause-engines : goal.returns-in-format-clause-engines
returns-in-format-clause-engines c =
    let items = said format_options (drop 1 (map string_bytes c.args.words.now)) in
    engines_declared c.args.boxes (option_and_then format_of items) (formats_sound c.args.boxes items) c.read_format.result c.read_format.ensures

pub returns-in-explain-clause-files : goal.returns-in-explain-clause-files
returns-in-explain-clause-files c =
    let items = said explain_options (drop 1 (map string_bytes c.args.words.now)) in
    some_files c.args.boxes (option_and_then (explain_of c.args.boxes) items) (explains_sound c.args.boxes items) c.read_explain.result c.read_explain.ensures

pub returns-in-explain-clause-alone : goal.returns-in-explain-clause-alone
returns-in-explain-clause-alone c =
    let items = said explain_options (drop 1 (map string_bytes c.args.words.now)) in
    one_instant c.args.boxes (option_and_then (explain_of c.args.boxes) items) (explains_sound c.args.boxes items) c.read_explain.result c.read_explain.ensures

pub returns-in-explain-clause-series : goal.returns-in-explain-clause-series
returns-in-explain-clause-series c =
    let items = said explain_options (drop 1 (map string_bytes c.args.words.now)) in
    some_series c.args.boxes (option_and_then (explain_of c.args.boxes) items) (explains_sound c.args.boxes items) c.read_explain.result c.read_explain.ensures

pub returns-in-explain-clause-batch : goal.returns-in-explain-clause-batch
returns-in-explain-clause-batch c =
    let items = said explain_options (drop 1 (map string_bytes c.args.words.now)) in
    in_batches c.args.boxes (option_and_then (explain_of c.args.boxes) items) (explains_sound c.args.boxes items) c.read_explain.result c.read_explain.ensures

pub returns-in-explain-clause-engines : goal.returns-in-explain-clause-engines
returns-in-explain-clause-engines c =
    let items = said explain_options (drop 1 (map string_bytes c.args.words.now)) in
    engines_declared c.args.boxes (option_and_then (explain_of c.args.boxes) items) (explains_sound c.args.boxes items) c.read_explain.result c.read_explain.ensures

pub returns-in_default-as_str-clause-wish : goal.returns-in_default-as_str-clause-wish
returns-in_default-as_str-clause-wish c =
    no_command c.args.boxes c.args.words.now c.in-Some.command.now _ c.in-Some.ensures.value c.as_str.ensures.value c.in_default-as_str.not-promqltest c.in_default-as_str.not-query
    c.in_default-as_str.not-workload c.in_default-as_str.not-format c.in_default-as_str.not-explain

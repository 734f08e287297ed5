-- The numbers of refusals, a name for each, and the list of all.
use Rattle.std.specs.Prelude.{ℕ, ◌==◌, List, [], ◌∷◌, Bool}
use Rattle.std.specs.List.{list_any}

-- ---- devices, and documents in general

-- a document isn't a JSON text in UTF-8 (RFC 8259)
abbrev pub not_json : ℕ
not_json = 101

-- a member that isn't allowed (RFC 6728, RFC 7951)
abbrev pub unknown_member : ℕ
unknown_member = 102

-- a required member is missing, or a list that must have an entry is empty
abbrev pub missing_member : ℕ
missing_member = 103

-- a value is of another JSON kind than its member requires (RFC 7951, section 6)
abbrev pub wrong_kind : ℕ
wrong_kind = 104

-- a value of the right kind isn't allowed
abbrev pub bad_value : ℕ
bad_value = 105

-- a name occurs twice in its list
abbrev pub name_twice : ℕ
name_twice = 106

-- a reference names no entry
abbrev pub unknown_name : ℕ
unknown_name = 107

-- a selector samples (RFC 5475, section 5): totals over a sample aren't exact
abbrev pub sampling_selector : ℕ
sampling_selector = 108

-- a selector filters by a hash (RFC 5475, section 6.2)
abbrev pub hash_filter : ℕ
hash_filter = 109

-- a counter of a cache has another length than 8 octets (RFC 7011, section 6.2)
abbrev pub cache_counter_length : ℕ
cache_counter_length = 110

-- a counter since the start of metering, element 85 or 86 (RFC 7012)
abbrev pub total_counter : ℕ
total_counter = 111

-- a flow key that isn't an axis
abbrev pub key_without_axis : ℕ
key_without_axis = 112

-- a file as the transport
abbrev pub file_transport : ℕ
file_transport = 113

-- a cache's layout lacks `octetDeltaCount` or `packetDeltaCount`
abbrev pub missing_counter : ℕ
missing_counter = 114

-- a list of a device or of a network has too many entries
abbrev pub too_many_entries : ℕ
too_many_entries = 115

-- ---- networks

-- an end of a link doesn't exist
abbrev pub unknown_link_end : ℕ
unknown_link_end = 201

-- a destination already has a link
abbrev pub linked_twice : ℕ
linked_twice = 202

-- links form a cycle
abbrev pub link_cycle : ℕ
link_cycle = 204

-- the device or the collecting process of the report doesn't exist
abbrev pub unknown_report_process : ℕ
unknown_report_process = 205

-- the report's key doesn't consist of axes, each at most once
abbrev pub report_key : ℕ
report_key = 206

-- there are more than 64 different layouts
abbrev pub too_many_layouts : ℕ
too_many_layouts = 207

-- ---- declarations of traffic

-- the name of a class occurs twice
abbrev pub class_twice : ℕ
class_twice = 301

-- a value of a traffic declaration isn't allowed
abbrev pub traffic_value : ℕ
traffic_value = 302

-- a crossing names a device that doesn't exist
abbrev pub unknown_device : ℕ
unknown_device = 303

-- a class has no path
abbrev pub no_path : ℕ
no_path = 304

-- a list of a traffic declaration has too many entries
abbrev pub too_much_traffic : ℕ
too_much_traffic = 305

-- ---- certificates

-- the first refusal number of certificates
abbrev pub certificate_first : ℕ
certificate_first = 401

-- the last refusal number of certificates
abbrev pub certificate_last : ℕ
certificate_last = 415

-- the first line isn't the header of a certificate
abbrev pub certificate_header : ℕ
certificate_header = 401

-- a line isn't well-formed as a line of a certificate
abbrev pub certificate_line : ℕ
certificate_line = 402

-- a line is out of order
abbrev pub certificate_order : ℕ
certificate_order = 403

-- a split isn't strictly inside its region
abbrev pub split_not_inside : ℕ
split_not_inside = 404

-- a certificate ends before its line `end`
abbrev pub certificate_cut : ℕ
certificate_cut = 405

-- a selection process or a match covers only part of a leaf's region
abbrev pub cut_region : ℕ
cut_region = 406

-- the packets of a leaf aren't counted
abbrev pub never_counted : ℕ
never_counted = 407

-- the packets of a leaf are counted more than once
abbrev pub counted_more_than_once : ℕ
counted_more_than_once = 408

-- how often the packets of a leaf are counted depends on which destination is chosen
abbrev pub destinations_differ : ℕ
destinations_differ = 409

-- the packets of a leaf are counted once, but not at the place that the leaf names
abbrev pub counted_elsewhere : ℕ
counted_elsewhere = 410

-- a line follows the end of the certificate
abbrev pub line_behind_end : ℕ
line_behind_end = 411

-- a split is deeper than 511
abbrev pub split_too_deep : ℕ
split_too_deep = 412

-- the report's key can't be read from a record that results from a leaf's packets
abbrev pub unassigned_record : ℕ
unassigned_record = 413

-- there are more than 1,000,000 lines of splits and leaves
abbrev pub too_many_lines : ℕ
too_many_lines = 414

-- the packets of a leaf are of an exempt class, and each is counted once
abbrev pub exempt_counted : ℕ
exempt_counted = 415

-- ---- joins of certified parts

-- the documents or the certificate of a part aren't accepted
abbrev pub part_refused : ℕ
part_refused = 421

-- the network of a part isn't a part of the whole network
abbrev pub not_a_part : ℕ
not_a_part = 422

-- no part covers a class of the whole network
abbrev pub class_not_covered : ℕ
class_not_covered = 423

-- ---- refutations

-- the first refusal number of refutations
abbrev pub refutation_first : ℕ
refutation_first = 501

-- the last refusal number of refutations
abbrev pub refutation_last : ℕ
refutation_last = 505

-- the text isn't a well-formed refutation
abbrev pub refutation_form : ℕ
refutation_form = 501

-- the packet of a refutation isn't in its class
abbrev pub refutation_packet : ℕ
refutation_packet = 502

-- a step of a refutation isn't enabled
abbrev pub refutation_step : ℕ
refutation_step = 503

-- the run of a refutation isn't complete
abbrev pub run_not_complete : ℕ
run_not_complete = 504

-- the totals of a refutation equal the plain sums, and nothing is unassigned
abbrev pub totals_agree : ℕ
totals_agree = 505

-- ---- searches (601) and streams

-- a search needs more than its limits allow
abbrev pub search_too_large : ℕ
search_too_large = 601

-- a message has another version than 10 (RFC 7011, section 3.1)
abbrev pub message_version : ℕ
message_version = 611

-- a message's length is below 16, or the stream ends inside the message (RFC 7011, section 3.1)
abbrev pub message_length : ℕ
message_length = 612

-- a set's length is below 4 or passes its message's end (RFC 7011, section 3.3.2)
abbrev pub set_length : ℕ
set_length = 613

-- a template isn't well-formed (RFC 7011, section 3.4)
abbrev pub template_form : ℕ
template_form = 614

-- a set has a reserved id (RFC 7011, section 3.3.2)
abbrev pub reserved_set : ℕ
reserved_set = 615

-- a different template is already live under this id (RFC 7011, section 8)
abbrev pub template_changed : ℕ
template_changed = 616

-- a data set has no template (RFC 7011, section 8)
abbrev pub no_template : ℕ
no_template = 617

-- a counter of a template has another length than 8 octets (RFC 7011, section 6.2)
abbrev pub template_counter_length : ℕ
template_counter_length = 618

-- a record passes its set's end (RFC 7011, section 3.3.1)
abbrev pub record_past_set : ℕ
record_past_set = 619

-- a prefix is longer than its address
abbrev pub prefix_length : ℕ
prefix_length = 620

-- ---- captures

-- the file header of a capture isn't that of classic pcap, version 2.4
abbrev pub capture_format : ℕ
capture_format = 701

-- the link type of a capture is neither 1 (Ethernet) nor 101 (IP)
abbrev pub link_type : ℕ
link_type = 702

-- a capture ends inside a record
abbrev pub capture_cut : ℕ
capture_cut = 703

-- a captured record has more than 262,144 octets
abbrev pub long_capture_record : ℕ
long_capture_record = 704

-- ---- schedules, bundles and runs

-- a line isn't well-formed as a line of a schedule, or standard input isn't a bundle
abbrev pub schedule_or_bundle : ℕ
schedule_or_bundle = 801

-- what a line of a schedule refers to doesn't exist
abbrev pub nothing_there : ℕ
nothing_there = 802

-- a packet isn't in the class that a line of a schedule names
abbrev pub not_in_named_class : ℕ
not_in_named_class = 803

-- a packet of a capture is in no class
abbrev pub in_no_class : ℕ
in_no_class = 804

-- a step of a run isn't enabled
abbrev pub step_not_enabled : ℕ
step_not_enabled = 851

-- the choices of a step aren't valid
abbrev pub wrong_choices : ℕ
wrong_choices = 852

-- there is no record at the position that a step names
abbrev pub no_record_there : ℕ
no_record_there = 853

-- the first line isn't the header of a run
abbrev pub run_header : ℕ
run_header = 854

-- a line isn't well-formed as a line of a run, or a line is missing
abbrev pub run_form : ℕ
run_form = 855

-- a packet of a run isn't in its class
abbrev pub run_packet : ℕ
run_packet = 856

-- a text isn't that of totals under the report's key, or one of its lines is out of order
abbrev pub totals_form : ℕ
totals_form = 861

-- ---- the program's environment

-- out of memory
abbrev pub want_of_memory : ℕ
want_of_memory = 900

-- a read failed, or a file can't be opened
abbrev pub failed_read : ℕ
failed_read = 901

-- a write failed, or a file can't be created
abbrev pub failed_write : ℕ
failed_write = 902

-- a line has more than 4,096 octets
abbrev pub long_line : ℕ
long_line = 903

-- ---- all of them

-- every refusal number
abbrev pub refusal_numbers : List ℕ
refusal_numbers =
    not_json ∷ unknown_member ∷ missing_member ∷ wrong_kind
    ∷ bad_value ∷ name_twice ∷ unknown_name ∷ sampling_selector
    ∷ hash_filter ∷ cache_counter_length ∷ total_counter ∷ key_without_axis
    ∷ file_transport ∷ missing_counter ∷ too_many_entries ∷ unknown_link_end
    ∷ linked_twice ∷ link_cycle ∷ unknown_report_process ∷ report_key
    ∷ too_many_layouts ∷ class_twice ∷ traffic_value ∷ unknown_device
    ∷ no_path ∷ too_much_traffic ∷ certificate_header ∷ certificate_line
    ∷ certificate_order ∷ split_not_inside ∷ certificate_cut ∷ cut_region
    ∷ never_counted ∷ counted_more_than_once ∷ destinations_differ ∷ counted_elsewhere
    ∷ line_behind_end ∷ split_too_deep ∷ unassigned_record ∷ too_many_lines
    ∷ exempt_counted ∷ part_refused ∷ not_a_part ∷ class_not_covered
    ∷ refutation_form ∷ refutation_packet ∷ refutation_step
    ∷ run_not_complete ∷ totals_agree ∷ search_too_large ∷ message_version
    ∷ message_length ∷ set_length ∷ template_form ∷ reserved_set
    ∷ template_changed ∷ no_template ∷ template_counter_length ∷ record_past_set
    ∷ prefix_length ∷ capture_format ∷ link_type ∷ capture_cut
    ∷ long_capture_record ∷ schedule_or_bundle ∷ nothing_there ∷ not_in_named_class
    ∷ in_no_class ∷ step_not_enabled ∷ wrong_choices ∷ no_record_there
    ∷ run_header ∷ run_form ∷ run_packet ∷ totals_form
    ∷ want_of_memory ∷ failed_read ∷ failed_write ∷ long_line ∷ []

-- the number is a refusal number
abbrev pub is_refusal_number : ℕ → Bool
is_refusal_number number = list_any (λ n. n == number) refusal_numbers

mod Payloads
